-- What comes of a program: its files are refused, it is not linked, or something comes of it as it is linked.
use Rattle.std.specs.Prelude.{◌≡◌, ℕ, List, [], ◌∷◌, Result, Ok, Err, IfSome}
use Rattle.m51_inputs.specs.Inputs.{InputsTree}
use Rattle.m51_linker.specs.declared.linked.Linked.{Linked}
use Rattle.m51_linker.specs.Link.{IsLinked, Program, program_of}
use Rattle.m51_module.specs.declared.linked.Refusal.{Refusal}
use Rattle.m51_module.specs.declared.parts.ModuleParts.{ModuleParts}
use Rattle.m51_script.specs.declared.script.Script.{Script}
use Rattle.m51_chain.specs.declared.linking.LinkedFiles.{LinkedFiles}
use Rattle.m51_chain.specs.declared.work.Stop.{Stop}
use Rattle.m51_chain.specs.LinkRefusals.{link_outcome}
use Rattle.m51_chain.specs.Outcome.{Outcome, stopped}
use Rattle.m51_chain.specs.ProgramFiles.{AreAnswered, IsFilesOutcome, Nothing, ProgramFiles}

-- A program is not linked, or there is what comes of it as it is linked.
pub data IsProgramOutcome (program : Result Program Refusal) (Is : Linked → Outcome → Type 0) (outcome : Outcome)
    : Type 0 where
  Unlinked : (why : Refusal) → program ≡ Err why → outcome ≡ link_outcome why → IsProgramOutcome program Is outcome
  Follows : (p : Program) (linked : Linked) → program ≡ Ok p → IsLinked p linked → Is linked outcome
      → IsProgramOutcome program Is outcome

-- the program of a module that is linked by itself
abbrev pub sole_program : ModuleParts → Result Program Refusal
sole_program parts = program_of (parts ∷ []) [] []

-- modules and libraries are linked by the control lines
abbrev pub program_in : InputsTree → Result Program Refusal
program_in inputs = program_of inputs.modules inputs.libraries inputs.controls

abbrev pub IsInputsOutcome : (Script → Linked → Outcome → Type 0) → InputsTree → Outcome → Type 0
IsInputsOutcome Is inputs outcome = IsProgramOutcome (program_in inputs) (Is inputs.script) outcome

-- what comes of files with these contents, where it is so of their script and their program
abbrev pub IsLinkedOutcome : ProgramFiles → List (List ℕ) → (Script → Linked → Outcome → Type 0) → Outcome → Type 0
IsLinkedOutcome files contents Is outcome = IsFilesOutcome files contents (IsInputsOutcome Is) outcome

-- What functions on the way answer.

-- the program as it is linked, or a refusal of its link; out of memory is free
abbrev pub IsLinkedOr : Result Program Refusal → Result Linked Stop → Type 0
IsLinkedOr program (Ok linked) = (p : Program) × (program ≡ Ok p) × IsLinked p linked
IsLinkedOr program (Err stop) = IfSome (stopped stop) (IsProgramOutcome program Nothing)

-- the program of files as it is linked, and their script
pub record AreLinked (files : ProgramFiles) (contents : List (List ℕ)) (found : LinkedFiles) : Type 0 where
  pub inputs : InputsTree
  pub given : AreAnswered files contents (Ok inputs)
  pub script : found.script ≡ inputs.script
  pub program : IsLinkedOr (program_in inputs) (Ok found.linked)

-- a refusal of files; out of memory is free
abbrev pub AreRefused : ProgramFiles → List (List ℕ) → Stop → Type 0
AreRefused files contents stop = IfSome (stopped stop) (IsLinkedOutcome files contents (λ script. Nothing))

abbrev pub AreLinkedOr : ProgramFiles → List (List ℕ) → Result LinkedFiles Stop → Type 0
AreLinkedOr files contents (Ok found) = AreLinked files contents found
AreLinkedOr files contents (Err stop) = AreRefused files contents stop

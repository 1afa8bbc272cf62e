-- What party makes of its files: each program is linked by itself and is a board, and the boards run on one line.
use Rattle.std.specs.Prelude.{◌≡◌, ℕ, ◌≤◌, List, [], ◌∷◌, length, All, None, Result, Ok, Err}
use Rattle.std.specs.Prelude.{IfSome, Vec}
use Rattle.std.specs.declared.alloc.Global.{Global}
use Rattle.m51_cells.specs.Outcome.{◌>>=◌}
use Rattle.m51_inputs.specs.Inputs.{InputsTree}
use Rattle.m51_linker.specs.declared.linked.Linked.{Linked}
use Rattle.m51_linker.specs.Link.{IsLinked, Program}
use Rattle.m51_module.specs.declared.linked.Refusal.{Refusal}
use Rattle.m51_module.specs.declared.parts.ModuleParts.{ModuleParts}
use Rattle.m51_party.specs.Family.{Family, IsFamily, IsFresh}
use Rattle.m51_party.specs.Report.{has_event}
use Rattle.m51_party.specs.Rounds.{family_of}
use Rattle.m51_party.specs.Text.{party_text}
use Rattle.m51_script.specs.declared.script.Script.{Script}
use Rattle.m51_sim.specs.Boards.{BoardState, IsStarted}
use Rattle.m51_jobs.specs.declared.endings.TheConstants.{LEAST_BOARDS, MOST_BOARDS}
use Rattle.m51_jobs.specs.declared.job.PartyJob.{PartyJob}
use Rattle.m51_chain.specs.Linking.{sole_program}
use Rattle.m51_chain.specs.ProgramFiles.{IsFilesOutcome, ProgramFiles, program_files}
use Rattle.m51_chain.specs.declared.work.Stop.{Stop}
use Rattle.m51_chain.specs.LinkRefusals.{link_outcome}
use Rattle.m51_chain.specs.Outcome.{Outcome, status_if, stopped}

-- there is no control file
abbrev pub party_files : PartyJob → ProgramFiles
party_files job = program_files job.files None job.script

-- what each gives, or the first refusal in their order
abbrev pub each_of : {A B E : Type 0} → (A → Result B E) → List A → Result (List B) E
each_of give [] = Ok []
each_of give (x ∷ xs) = do
  first ← give x
  others ← each_of give xs
  Ok (first ∷ others)

-- the programs of modules, each linked by itself
abbrev pub programs_of : List ModuleParts → Result (List Program) Refusal
programs_of modules = each_of sole_program modules

-- the board of a program as it is linked, with a script, after a reset
pub record IsBoardOf (script : Script) (program : Program) (board : BoardState) : Type 0 where
  pub linked : Linked
  pub is : IsLinked program linked
  pub started : IsStarted linked.layout linked.image script board

-- a board for each program, in order, and all with one script
abbrev pub AreBoardsOf : Script → List Program → List BoardState → Type 0
AreBoardsOf script [] [] = Unit {0}
AreBoardsOf script (program ∷ programs) (board ∷ boards) =
    IsBoardOf script program board × AreBoardsOf script programs boards
AreBoardsOf script programs boards = ⊥

-- the text of a family of records, and whether some record has an event
abbrev pub party_report : List BoardState → ℕ → Family → Outcome
party_report boards steps family = record {
  status = status_if (has_event family);
  text = party_text boards steps family;
  keeps = None;
}

-- the report of the one family of records of boards
abbrev pub party_outcome : List BoardState → ℕ → Outcome
party_outcome boards steps = party_report boards steps (family_of boards steps)

-- the report of the family that belongs to the boards
pub record IsPartyReport (boards : List BoardState) (steps : ℕ) (outcome : Outcome) : Type 0 where
  pub family : Family
  pub belongs : IsFamily boards steps family
  pub is : outcome ≡ party_report boards steps family

-- A module is not linked, or the boards of all modules run on one line.
pub data IsPartyWork (steps : ℕ) (inputs : InputsTree) (outcome : Outcome) : Type 0 where
  Unlinked : (why : Refusal) → programs_of inputs.modules ≡ Err why → outcome ≡ link_outcome why
      → IsPartyWork steps inputs outcome
  Ran : (programs : List Program) (boards : List BoardState) → programs_of inputs.modules ≡ Ok programs
      → AreBoardsOf inputs.script programs boards → IsPartyReport boards steps outcome
      → IsPartyWork steps inputs outcome

-- what party makes of the contents of its files
abbrev pub IsPartyOutcome : PartyJob → List (List ℕ) → Outcome → Type 0
IsPartyOutcome job contents outcome = IsFilesOutcome (party_files job) contents (IsPartyWork job.steps) outcome

-- What functions on the way answer.

-- the link is refused for this
pub record IsUnlinked {A : Type 0} (program : Result A Refusal) (outcome : Outcome) : Type 0 where
  pub why : Refusal
  pub refuses : program ≡ Err why
  pub is : outcome ≡ link_outcome why

-- the board of a module that is linked by itself, or a refusal of its link; out of memory is free
abbrev pub IsBoardOr : Script → ModuleParts → Result BoardState Stop → Type 0
IsBoardOr script parts (Ok board) = (program : Program) × (sole_program parts ≡ Ok program)
    × IsBoardOf script program board
IsBoardOr script parts (Err stop) = IfSome (stopped stop) (IsUnlinked (sole_program parts))

-- the boards of modules
pub record AreBoardsFor (script : Script) (modules : List ModuleParts) (boards : List BoardState) : Type 0 where
  pub programs : List Program
  pub are : programs_of modules ≡ Ok programs
  pub each : AreBoardsOf script programs boards

-- the same, or the refusal of the first that is not linked; out of memory is free
abbrev pub AreBoardsOr : Script → List ModuleParts → Result (Vec BoardState Global) Stop → Type 0
AreBoardsOr script modules (Ok boards) = AreBoardsFor script modules boards.items
AreBoardsOr script modules (Err stop) = IfSome (stopped stop) (IsUnlinked (programs_of modules))

-- the boards of a party that were not stepped, and their outcome
pub record AreJoined (job : PartyJob) (contents : List (List ℕ)) (boards : List BoardState) : Type 0 where
  pub least : LEAST_BOARDS ≤ length boards
  pub most : length boards ≤ MOST_BOARDS
  pub fresh : All IsFresh boards
  pub is : IsPartyOutcome job contents (party_outcome boards job.steps)

-- the same, or a refusal; out of memory is free
abbrev pub AreJoinedOr : PartyJob → List (List ℕ) → Result (Vec BoardState Global) Stop → Type 0
AreJoinedOr job contents (Ok boards) = AreJoined job contents boards.items
AreJoinedOr job contents (Err stop) = IfSome (stopped stop) (IsPartyOutcome job contents)

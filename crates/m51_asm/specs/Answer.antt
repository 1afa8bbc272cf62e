-- What a source gives: the first group of faults that is not empty, or its module with the rows of its lines.
use Rattle.std.specs.Prelude.{◌≡◌, ℕ, suc, List, [], ◌∷◌, Option, Some, None}
use Rattle.m51_module.specs.declared.parts.ModuleParts.{ModuleParts}
use Rattle.m51_module.specs.declared.source.Row.{Row}
use Rattle.m51_module.specs.declared.source.SourceFile.{SourceFile}
use Rattle.m51_module.specs.declared.source.Fault.{Fault}
use Rattle.m51_asm.specs.declared.outcome.Assembled.{Assembled}
use Rattle.m51_asm.specs.declared.outcome.Assembled.TheVariants as assembled
use Rattle.m51_text.specs.Answer.{LineTree, TextTree, Lines, Faults as TextFaults, text_of}
use Rattle.m51_asm.specs.Assignment.{Assignment}
use Rattle.m51_asm.specs.Fitting.{Fits}
use Rattle.m51_asm.specs.PlacedFaults.{placed_fault}
use Rattle.m51_asm.specs.ContentFaults.{fault_of_line, content_faults}
use Rattle.m51_asm.specs.Parts.{parts}
use Rattle.m51_asm.specs.AnswerRows.{rows}

-- a module with its rows, or faults
pub data AnswerTree : Type 0 where
  Gives : ModuleParts → List Row → AnswerTree
  Faults : List Fault → AnswerTree

abbrev pub fault_or : LineTree → Option ℕ → Option Fault → Option Fault
fault_or line (Some number) later = Some (fault_of_line line number)
fault_or line None later = later

-- the first of these lines, from line k on, that has a fault
abbrev pub first_fault : (ℕ → Option ℕ) → ℕ → List LineTree → Option Fault
first_fault fault k [] = None
first_fault fault k (line ∷ lines) = fault_or line (fault k) (first_fault fault (suc k) lines)

-- the faults of content, or where there are none the module and the rows
abbrev pub content_or_faults : List ℕ → List LineTree → Assignment → List Fault → AnswerTree
content_or_faults file lines a [] = Gives (parts file lines a) (rows lines a)
content_or_faults file lines a (fault ∷ faults) = Faults (fault ∷ faults)

-- the first fault by place, or where no line has one what the content gives
abbrev pub placed_or_fault : List ℕ → List LineTree → Assignment → Option Fault → AnswerTree
placed_or_fault file lines a (Some fault) = Faults (fault ∷ [])
placed_or_fault file lines a None = content_or_faults file lines a (content_faults lines a)

-- what lines without a fault of their own give under an assignment
unfoldable pub answer_of_lines : List ℕ → List LineTree → Assignment → AnswerTree
answer_of_lines file lines a = placed_or_fault file lines a (first_fault (placed_fault lines a) 0 lines)

-- An answer is that of a text: its faults as a text, or what its lines give under the assignment that fits them. There
-- is one that fits, and only one (AssignmentLaws).
abbrev pub IsAnswerOf : List ℕ → TextTree → AnswerTree → Type 0
IsAnswerOf file (TextFaults faults) answer = answer ≡ Faults faults
IsAnswerOf file (Lines lines) answer = (a : Assignment) → Fits lines a → answer ≡ answer_of_lines file lines a

-- the answer for a source with these includes
abbrev pub IsAnswer : SourceFile → List SourceFile → AnswerTree → Type 0
IsAnswer source includes answer = IsAnswerOf source.name (text_of source includes) answer

-- what a call gives, as an answer
abbrev pub tree_of : Assembled → AnswerTree
tree_of (assembled.Module parts rows) = Gives parts rows
tree_of (assembled.Faults faults) = Faults faults

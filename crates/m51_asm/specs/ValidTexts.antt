-- What is promised of the module of a text without faults, and of the rows of its lines.
use Rattle.std.specs.Prelude.{◌≡◌, ◌≤◌, ℕ, List, [], None, All}
use Rattle.m51_module.specs.declared.parts.ModuleParts.{ModuleParts}
use Rattle.m51_module.specs.declared.source.Row.{Row}
use Rattle.m51_module.specs.declared.source.SourceFile.{SourceFile}
use Rattle.m51_module.specs.Validity.{IsValid}
use Rattle.m51_text.specs.Answer.{LineTree, Lines, text_of}
use Rattle.m51_text.specs.Laws.{IsLineOf}
use Rattle.m51_asm.specs.Assignment.{Assignment}
use Rattle.m51_asm.specs.Fitting.{Fits}
use Rattle.m51_asm.specs.PlacedFaults.{placed_fault}
use Rattle.m51_asm.specs.ContentFaults.{content_faults}
use Rattle.m51_asm.specs.Answer.{first_fault, Gives, IsAnswer}
use Rattle.m51_asm.specs.Parts.{parts}

-- The lines are those of a text, the assignment fits them, and no line has a fault, by the lines above it or in its
-- content.
pub record IsFaultless (lines : List LineTree) (a : Assignment) : Type 0 where
  pub source : SourceFile
  pub includes : List SourceFile
  pub read : text_of source includes ≡ Lines lines
  pub fits : Fits lines a
  pub placed : first_fault (placed_fault lines a) 0 lines ≡ None
  pub content : content_faults lines a ≡ []

-- The module that a text without faults gives is valid.
abbrev pub PartsAreValid : Type 0
PartsAreValid =
    (file : List ℕ) (lines : List LineTree) (a : Assignment) → IsFaultless lines a → IsValid (parts file lines a)

-- a row is of a line of the source or of one of the includes, and has at most three bytes
pub record IsRowOfText (source : SourceFile) (includes : List SourceFile) (row : Row) : Type 0 where
  pub line : IsLineOf source includes row.file row.line
  pub count : row.count ≤ 3

-- a module that can be made, with rows that can be listed
pub record CanBeGiven (source : SourceFile) (includes : List SourceFile) (m : ModuleParts) (rows : List Row)
    : Type 0 where
  pub valid : IsValid m
  pub listed : All (IsRowOfText source includes) rows

-- What is given for a source, where it is a module with its rows, is valid.
abbrev pub AnswersAreValid : Type 0
AnswersAreValid =
    (source : SourceFile) (includes : List SourceFile) (m : ModuleParts) (rows : List Row)
    → IsAnswer source includes (Gives m rows) → CanBeGiven source includes m rows

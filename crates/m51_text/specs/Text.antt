-- The lines of a text: those of the source in order, each include line with the lines of its include after it.
use Rattle.std.specs.Prelude.{ℕ, zero, suc, ◌+◌, ◌<◌, ◌==◌, Bool, if◌then◌else◌, List, [], ◌∷◌, ◌++◌, take, position}
use Rattle.std.specs.Prelude.{slice_get, Option, Some, None, Result}
use Rattle.std.specs.Str.{bytes_eq}
use Rattle.m51_module.specs.declared.source.SourceFile.{SourceFile}
use Rattle.std.specs.Str.Lines.{lines}
use Rattle.m51_cells.specs.declared.limits.TheConstants.{MOST_INCLUDE_LEVELS, MOST_SOURCE_LINES}
use Rattle.m51_stmt.specs.Statement.{StmtTree}
use Rattle.m51_text.specs.declared.inclusion.Inclusion.{Inclusion}
use Rattle.m51_text.specs.declared.inclusion.Inclusion.TheVariants.{Nothing, Refused, Given}
use Rattle.m51_text.specs.Said.{said, asked}

-- A line of the text: its file (0 is the source, k the k-th include), its number in that file, counted from 1, how many
-- levels of includes are allowed below it (8 in the source), and its bytes.
pub record TextLine : Type 0 where
  pub file : ℕ
  pub line : ℕ
  pub levels : ℕ
  pub bytes : List ℕ

-- the file has exactly this name
abbrev pub has_name : List ℕ → SourceFile → Bool
has_name name file = bytes_eq file.name name

-- the include of an index, or a refusal where there is none
abbrev pub given_at : Option ℕ → Inclusion
given_at (Some index) = Given index
given_at None = Refused

-- the first include of a name, or a refusal where none has it
abbrev pub given : List SourceFile → List ℕ → Inclusion
given includes name = given_at (position (has_name name) includes)

-- which include this name brings in: a refusal if no further level is allowed below the line
abbrev pub inclusion_by : List SourceFile → ℕ → Option (List ℕ) → Inclusion
inclusion_by includes levels (Some name) = if levels == 0 then Refused else given includes name
inclusion_by includes levels None = Nothing

-- which include a line brings in, if it asks for one
abbrev pub inclusion_of : List SourceFile → ℕ → Result StmtTree ℕ → Inclusion
inclusion_of includes levels said = inclusion_by includes levels (asked said)

-- an include that is brought in is one of `count`, and a level is allowed below the line
abbrev pub IsAllowed : ℕ → ℕ → Inclusion → Type 0
IsAllowed count levels (Given index) = (index < count) × (0 < levels)
IsAllowed count levels inclusion = Unit {0}

-- a file's lines from this number on, each with the lines after it that it brings in
abbrev pub lines_with : (List ℕ → List TextLine) → ℕ → ℕ → ℕ → List (List ℕ) → List TextLine
lines_with brought levels file number [] = []
lines_with brought levels file number (line ∷ lines) =
    record { file = file; line = number; levels = levels; bytes = line }
    ∷ (brought line ++ lines_with brought levels file (number + 1) lines)

-- the bytes of a file, where there is one
abbrev pub bytes_of_file : Option SourceFile → List ℕ
bytes_of_file (Some file) = file.bytes
bytes_of_file None = []

-- the lines of the include that is brought in, with `levels` levels of includes allowed below them
abbrev pub include_lines : List SourceFile → (List ℕ → List TextLine) → ℕ → Inclusion → List TextLine
include_lines includes brought levels (Given index) =
    lines_with brought levels (index + 1) 1 (lines (bytes_of_file (slice_get includes index)))
include_lines includes brought levels Refused = []
include_lines includes brought levels Nothing = []

-- the lines that a line brings in, from the number of levels of includes allowed below it
unfoldable pub brought : List SourceFile → ℕ → List ℕ → List TextLine
brought includes zero line = []
brought includes (suc levels) line =
    include_lines includes (brought includes levels) levels (inclusion_of includes (suc levels) (said line))

-- the lines of a file of these bytes, and those that they bring in
abbrev pub file_lines : List SourceFile → ℕ → ℕ → List ℕ → List TextLine
file_lines includes levels file bytes = lines_with (brought includes levels) levels file 1 (lines bytes)

-- the lines of a text, as far as they are read: eight levels of includes, and 65,536 lines
unfoldable pub text_lines : SourceFile → List SourceFile → List TextLine
text_lines source includes =
    take (MOST_SOURCE_LINES + 1) (file_lines includes MOST_INCLUDE_LEVELS 0 source.bytes)

-- Definitions for the proofs of the code. What is kept while a text is read: what each line says, and its fault by the
-- lines above it.
use Rattle.std.specs.Prelude.{ℕ, ◌+◌, ◌-◌, ◌==◌, ◌&&◌, ◌||◌, not, Bool, false, nat_le, nat_lt, if◌then◌else◌, List, []}
use Rattle.std.specs.Prelude.{◌∷◌, ◌++◌, length, slice_get, Option, None, Result, Ok, Err}
use Rattle.std.specs.List.{filter_map}
use Rattle.m51_module.specs.declared.source.SourceFile.{SourceFile}
use Rattle.m51_stmt.specs.Statement.{StmtTree}
use Rattle.m51_cells.specs.declared.fault.TheConstants.{MISPLACED_END}
use Rattle.m51_cells.specs.declared.limits.TheConstants.{MOST_SOURCE_LINES}
use Rattle.m51_text.specs.declared.inclusion.Inclusion.{Inclusion}
use Rattle.m51_text.specs.declared.inclusion.Inclusion.TheVariants.{Given}
use Rattle.m51_text.specs.declared.reading.TextPlace.{TextPlace}
use Rattle.m51_text.specs.declared.reading.TextReading.{TextReading}
use Rattle.m51_text.specs.Said.{said}
use Rattle.m51_text.specs.Text.{TextLine, inclusion_of, bytes_of_file, file_lines}
use Rattle.m51_text.specs.Faults.{ends_source, is_misplaced, fault_by_place}
use Rattle.m51_text.specs.Entries.{EntryTree, read_entries, fault_at, fault_of_entry, tree_of_entry, marked}
use Rattle.m51_text.specs.Answer.{TextTree, Faults, faults_or_lines}

-- the lines that were read, and whether the END of the source is among them
pub record State : Type 0 where
  pub entries : List EntryTree
  pub ended : Bool

-- the same of what the code keeps
abbrev pub state_of : TextReading → State
state_of r = record { entries = read_entries r.read; ended = r.ended }

-- a line at this place
abbrev pub text_line : TextPlace → List ℕ → TextLine
text_line place bytes = record { file = place.file; line = place.line; levels = place.levels; bytes = bytes }

-- the fault by its place of a line with `above` lines above it, of which one is the END of the source or not
abbrev pub fault_above : ℕ → Bool → ℕ → Inclusion → Result StmtTree ℕ → Option ℕ
fault_above above ended file inclusion (Ok statement) =
    fault_by_place (is_misplaced ended (file == 0) statement) inclusion above
fault_above above ended file inclusion (Err number) = None

-- a line with its fault by its place
abbrev pub entry_of : List SourceFile → ℕ → Bool → TextLine → EntryTree
entry_of includes above ended line =
    record {
      file = line.file;
      line = line.line;
      said = said line.bytes;
      by_place =
          fault_above above ended line.file (inclusion_of includes line.levels (said line.bytes)) (said line.bytes);
    }

-- after one additional line; at most 65,536 are kept
abbrev pub next : List SourceFile → State → TextLine → State
next includes s line =
    if nat_le (MOST_SOURCE_LINES + 1) (length s.entries) then s
    else record {
      entries = s.entries ++ entry_of includes (length s.entries) s.ended line ∷ [];
      ended = s.ended || ends_source line;
    }

-- after these lines
unfoldable pub state_of_lines : List SourceFile → State → List TextLine → State
state_of_lines includes s [] = s
state_of_lines includes s (line ∷ lines) = state_of_lines includes (next includes s line) lines

-- the lines of the include that a line brings in, if `levels` levels of includes are allowed below the line
abbrev pub inserted : List SourceFile → ℕ → Inclusion → List TextLine
inserted includes levels (Given index) =
    file_lines includes (levels - 1) (index + 1) (bytes_of_file (slice_get includes index))
inserted includes levels inclusion = []

-- before the first line
abbrev pub nothing_yet : State
nothing_yet = record { entries = []; ended = false }

-- END is missing: all was read, and no END of the source is among it
abbrev pub lacks_end : State → Bool
lacks_end s = nat_lt (length s.entries) (MOST_SOURCE_LINES + 1) && not s.ended

-- the lines, with the missing END
abbrev pub settled : State → List EntryTree
settled s = if lacks_end s then marked s.entries else s.entries

-- the faults of lines, or where there are none the lines
abbrev pub told : List EntryTree → TextTree
told [] = Faults (fault_at 0 1 MISPLACED_END ∷ [])
told (e ∷ entries) = faults_or_lines (filter_map fault_of_entry (e ∷ entries)) (filter_map tree_of_entry (e ∷ entries))

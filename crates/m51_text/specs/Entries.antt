-- Lines that were read.
use Rattle.std.specs.Prelude.{ℕ, ◌==◌, ◌&&◌, not, Bool, if◌then◌else◌, List, [], ◌∷◌, Option, Some, None, option_map}
use Rattle.std.specs.Prelude.{◌+◌, ◌++◌, map, vec_len, Result, Ok, Err}
use Rattle.std.specs.List.{list_any}
use Rattle.m51_stmt.specs.Statement.{StmtTree, stmt_tree}
use Rattle.m51_module.specs.declared.source.Fault.{Fault}
use Rattle.m51_cells.specs.declared.fault.TheConstants.{MISPLACED_END}
use Rattle.m51_text.specs.declared.text.Line.{Line}
use Rattle.m51_text.specs.declared.entry.LineEntry.{LineEntry}
use Rattle.m51_text.specs.declared.read_lines.ReadLines.{ReadLines}
use Rattle.m51_text.specs.Said.{said_tree}
use Rattle.m51_text.specs.Answer.{LineTree}

-- a line that was read: what it says, and its fault by its place, which counts where it says a statement
pub record EntryTree : Type 0 where
  pub file : ℕ
  pub line : ℕ
  pub said : Result StmtTree ℕ
  pub by_place : Option ℕ

-- a line, apart from the memory that holds its expressions
abbrev pub entry_tree : LineEntry → EntryTree
entry_tree e = record { file = e.file; line = e.line; said = said_tree e.said; by_place = e.by_place }

-- the fault of this number at a line
abbrev pub fault_at : ℕ → ℕ → ℕ → Fault
fault_at file line number = record { file = file; line = line; number = number }

-- the fault of a line that says this, or else its fault by its place
abbrev pub fault_said : ℕ → ℕ → Option ℕ → Result StmtTree ℕ → Option Fault
fault_said file line by_place (Err number) = Some (fault_at file line number)
fault_said file line by_place (Ok statement) = option_map (fault_at file line) by_place

-- the fault of a line
abbrev pub fault_of_entry : EntryTree → Option Fault
fault_of_entry e = fault_said e.file e.line e.by_place e.said

-- the same of a line as it is kept
unfoldable pub fault_kept : LineEntry → Option Fault
fault_kept e = fault_of_entry (entry_tree e)

-- a line that has no fault
abbrev pub faultless : Line → EntryTree
faultless l = record { file = l.file; line = l.line; said = Ok (stmt_tree l.stmt); by_place = None }

-- a line that has no fault, as one of those that may have one
abbrev pub entry_of_line : Line → LineEntry
entry_of_line l =
    record { file = l.file; line = l.line; said = record { statement = l.stmt; fault = None }; by_place = None }

-- all the lines that were read
abbrev pub read_entries : ReadLines → List EntryTree
read_entries r = map faultless r.lines.items ++ map entry_tree r.entries.items

-- how many they are
abbrev pub line_count : ReadLines → ℕ
line_count r = vec_len r.lines + vec_len r.entries

-- a line with its statement, where it has no fault
abbrev pub line_of_entry : LineEntry → Line
line_of_entry e = record { file = e.file; line = e.line; stmt = e.said.statement }

-- the same as contracts see it
abbrev pub tree_said : ℕ → ℕ → Result StmtTree ℕ → Option LineTree
tree_said file line (Ok statement) = Some (record { file = file; line = line; stmt = statement })
tree_said file line (Err number) = None

-- a line with its statement, as contracts see it
abbrev pub tree_of_entry : EntryTree → Option LineTree
tree_of_entry e = tree_said e.file e.line e.said

-- the line is in the source itself
abbrev pub is_of_source : EntryTree → Bool
is_of_source e = e.file == 0

-- the fault of a line at which END is missing
abbrev pub with_missing_end : Bool → EntryTree → EntryTree
with_missing_end missing e = record {
  file = e.file;
  line = e.line;
  said = e.said;
  by_place = if missing then Some MISPLACED_END else e.by_place;
}

-- these lines with that fault at the last line of the source
abbrev pub marked : List EntryTree → List EntryTree
marked [] = []
marked (e ∷ entries) = with_missing_end (is_of_source e && not (list_any is_of_source entries)) e ∷ marked entries

-- What a line of a source says.
use Rattle.std.specs.Prelude.{ℕ, ◌==◌, ◌&&◌, ◌||◌, not, Bool, true, false, nat_le, if◌then◌else◌, List, Option, Some}
use Rattle.std.specs.Prelude.{None, is_some, Result, Ok, Err}
use Rattle.std.specs.List.{list_all}
use Rattle.m51_cells.specs.declared.fault.TheConstants.{BAD_BYTE}
use Rattle.m51_lex.specs.Characters.{tab}
use Rattle.m51_stmt.specs.declared.statement.Stmt.{Stmt}
use Rattle.m51_stmt.specs.Statement.{BodyTree, Empty, End, Include, StmtTree, stmt_tree}
use Rattle.m51_stmt.specs.Lines.{statement_of}
use Rattle.m51_text.specs.declared.saying.LineSaid.{LineSaid}

-- a byte that is allowed in a line: a tab, or 20H to 7EH
abbrev pub is_character : ℕ → Bool
is_character byte = byte == tab || nat_le 0x20 byte && nat_le byte 0x7E

-- What a line says, its end left out: its statement, or the fault of a byte that is not allowed, or else the first
-- fault by the grammar of lines.
unfoldable pub said : List ℕ → Result StmtTree ℕ
said line = if list_all is_character line then statement_of line else Err BAD_BYTE

-- a statement, or the fault in its place
abbrev pub said_with : Stmt → Option ℕ → Result StmtTree ℕ
said_with statement None = Ok (stmt_tree statement)
said_with statement (Some number) = Err number

-- what contracts see of what a line says
abbrev pub said_tree : LineSaid → Result StmtTree ℕ
said_tree s = said_with s.statement s.fault

-- the word END
abbrev pub is_end_body : BodyTree → Bool
is_end_body End = true
is_end_body body = false

-- a line that says END, with or without a label
abbrev pub is_end : Result StmtTree ℕ → Bool
is_end (Ok statement) = is_end_body statement.body
is_end (Err number) = false

-- blanks and a comment only
abbrev pub is_empty_body : BodyTree → Bool
is_empty_body Empty = true
is_empty_body body = false

-- a label, a statement or a control: more than blanks and a comment
abbrev pub has_content : StmtTree → Bool
has_content statement = is_some statement.label || not (is_empty_body statement.body)

-- the name between the parentheses of $INCLUDE
abbrev pub include_name : BodyTree → Option (List ℕ)
include_name (Include name) = Some name
include_name body = None

-- the name of the include that a line asks for
abbrev pub asked : Result StmtTree ℕ → Option (List ℕ)
asked (Ok statement) = include_name statement.body
asked (Err number) = None

-- What the grammar of lines promises of printed statements.
use Rattle.std.specs.Prelude.{◌≡◌, ℕ, ◌<◌, ◌≤◌, List, length, Ok, All}
use Rattle.m51_stmt.specs.Statement.{StmtTree}
use Rattle.m51_stmt.specs.Printing.{stmt_text}
use Rattle.m51_stmt.specs.Lines.{any_line, statement_of}

-- a byte
abbrev pub IsByte : ℕ → Type 0
IsByte b = b < 256

-- a line of bytes, of any length, writes this statement
pub record WritesStatement (line : List ℕ) (s : StmtTree) : Type 0 where
  pub bytes : All IsByte line
  pub reads : any_line line ≡ Ok s

-- the printed text of a statement writes it, and as a line too where it is not too long
pub record ReadsBack (s : StmtTree) : Type 0 where
  pub printed : any_line (stmt_text s) ≡ Ok s
  pub short : length (stmt_text s) ≤ 255 → statement_of (stmt_text s) ≡ Ok s

-- each statement that a line writes is what its printed text writes
abbrev pub PrintedReadsBack : Type 0
PrintedReadsBack = (line : List ℕ) (s : StmtTree) → WritesStatement line s → ReadsBack s

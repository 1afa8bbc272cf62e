-- What a source and its includes give.
use Rattle.std.specs.Prelude.{ℕ, List, [], ◌∷◌, map, Result, Ok, Err}
use Rattle.m51_module.specs.declared.source.SourceFile.{SourceFile}
use Rattle.m51_stmt.specs.Statement.{StmtTree, stmt_tree}
use Rattle.m51_module.specs.declared.source.Fault.{Fault}
use Rattle.m51_text.specs.declared.text.Line.{Line}
use Rattle.m51_text.specs.declared.text.Text.{Text}
use Rattle.m51_text.specs.declared.text.Text.TheVariants as text
use Rattle.m51_text.specs.Said.{said}
use Rattle.m51_text.specs.Text.{TextLine, text_lines}
use Rattle.m51_text.specs.Faults.{faults_of}

-- a line as contracts see it: its file, its number there, and its statement
pub record LineTree : Type 0 where
  pub file : ℕ
  pub line : ℕ
  pub stmt : StmtTree

-- a line, apart from the memory that holds its expressions
abbrev pub line_tree : Line → LineTree
line_tree l = record { file = l.file; line = l.line; stmt = stmt_tree l.stmt }

-- a text as contracts see it
pub data TextTree : Type 0 where
  Lines : List LineTree → TextTree
  Faults : List Fault → TextTree

-- a text, apart from the memory that holds its expressions
abbrev pub text_tree : Text → TextTree
text_tree (text.Lines lines) = Lines (map line_tree lines)
text_tree (text.Faults faults) = Faults faults

-- a line before others, where it says a statement
abbrev pub with_statement : TextLine → Result StmtTree ℕ → List LineTree → List LineTree
with_statement line (Ok statement) lines = record { file = line.file; line = line.line; stmt = statement } ∷ lines
with_statement line (Err number) lines = lines

-- the lines of a text that say a statement
abbrev pub statements_of : List TextLine → List LineTree
statements_of [] = []
statements_of (line ∷ lines) = with_statement line (said line.bytes) (statements_of lines)

-- the faults, or where there are none the lines
abbrev pub faults_or_lines : List Fault → List LineTree → TextTree
faults_or_lines [] lines = Lines lines
faults_or_lines (fault ∷ faults) lines = Faults (fault ∷ faults)

-- what a text gives: its faults, or where it has none its lines with their statements
abbrev pub text_answer : List SourceFile → List TextLine → TextTree
text_answer includes lines = faults_or_lines (faults_of includes lines) (statements_of lines)

-- what a source with these includes gives
abbrev pub text_of : SourceFile → List SourceFile → TextTree
text_of source includes = text_answer includes (text_lines source includes)

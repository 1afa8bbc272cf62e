-- The lines of a disassembly.
use Rattle.std.specs.Prelude.{ℕ, Bool, ◌==◌, if◌then◌else◌, List, [], ◌∷◌, ◌++◌, map, flat_map, Option, Some, None}
use Rattle.std.specs.List.{list_any, filter_map}
use Rattle.m51_disasm.specs.declared.line.SourceLine.{SourceLine}
use Rattle.m51_disasm.specs.declared.line.SourceLine.TheVariants as line
use Rattle.m51_disasm.specs.declared.line.Target.{Target}
use Rattle.m51_disasm.specs.declared.line.Target.TheVariants.{Nowhere, Label, Number}
use Rattle.m51_disasm.specs.declared.part.CodeRange.{CodeRange}
use Rattle.m51_disasm.specs.declared.statement.Statement.{Statement}
use Rattle.m51_disasm.specs.Statements.{statements_of, statement_target}

-- the address is one of these
abbrev pub is_among : List ℕ → ℕ → Bool
is_among addresses address = list_any (λ a. a == address) addresses

-- where statements begin, and where jumps, branches and calls among them lead
abbrev pub beginnings : List Statement → List ℕ
beginnings statements = map (λ s. s.at) statements

abbrev pub targets : List Statement → List ℕ
targets statements = filter_map statement_target statements

-- a target is written as a label where a statement of the same unit begins there, and else as a number
abbrev pub written_target : List ℕ → Option ℕ → Target
written_target begin None = Nowhere
written_target begin (Some address) = if is_among begin address then Label address else Number address

-- a statement of the same unit leads there, so the statement has a label
abbrev pub label_at : List ℕ → ℕ → Option ℕ
label_at led address = if is_among led address then Some address else None

-- the line of a statement, where statements of its unit begin and where they lead
abbrev pub line_of : List ℕ → List ℕ → Statement → SourceLine
line_of begin led s = line.Statement (record {
  label = label_at led s.at;
  content = s.content;
  target = written_target begin (statement_target s);
})

-- the lines of the statements of one unit
abbrev pub statement_lines : List Statement → List SourceLine
statement_lines statements = map (line_of (beginnings statements) (targets statements)) statements

-- the lines of a part
unfoldable pub part_lines : List ℕ → CodeRange → List SourceLine
part_lines image part = line.Segment part.base ∷ statement_lines (statements_of image part)

-- all lines
unfoldable pub lines_of : List ℕ → List CodeRange → List SourceLine
lines_of image parts = line.Nomod51 ∷ (flat_map (part_lines image) parts ++ line.End ∷ [])

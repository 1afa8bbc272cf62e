-- The faults of content (this project's rules of faults): of all lines that have one, the leftmost of each.
use Rattle.std.specs.Prelude.{ℕ, zero, suc, List, [], ◌∷◌, map, Option, Some, None}
use Rattle.m51_stmt.specs.Statement.{BodyTree, Public}
use Rattle.m51_module.specs.declared.source.Fault.{Fault}
use Rattle.m51_text.specs.Answer.{LineTree}
use Rattle.m51_asm.specs.Assignment.{Assignment, body_at}
use Rattle.m51_asm.specs.ObjectSegments.{final}
use Rattle.m51_encode.specs.declared.outcome.OperandOutcome.{OperandOutcome}
use Rattle.m51_asm.specs.Outcomes.{made_with_all, leftmost_fault}
use Rattle.m51_asm.specs.Content.{outcomes_by}
use Rattle.m51_asm.specs.PublicNames.{published, public_outcome}

abbrev pub line_outcomes_by : List LineTree → Assignment → ℕ → BodyTree → List OperandOutcome
line_outcomes_by lines a k (Public names) = map (λ name. public_outcome (published lines a k name)) names
line_outcomes_by lines a k body = outcomes_by (final lines a k) (a.form k) body

-- the outcomes of the operands, items and public names of line k
unfoldable pub line_outcomes : List LineTree → Assignment → ℕ → List OperandOutcome
line_outcomes lines a k = line_outcomes_by lines a k (body_at lines k)

-- how many fixups are made before line k
unfoldable pub made_before : List LineTree → Assignment → ℕ → ℕ
made_before lines a zero = 0
made_before lines a (suc k) = made_with_all (made_before lines a k) (line_outcomes lines a k)

-- the fault of line k in its content: E7 to E10, E14, or E19 for a fixup too many
unfoldable pub content_fault : List LineTree → Assignment → ℕ → Option ℕ
content_fault lines a k = leftmost_fault (made_before lines a k) (line_outcomes lines a k)

abbrev pub fault_of_line : LineTree → ℕ → Fault
fault_of_line line number = record { file = line.file; line = line.line; number = number }

abbrev pub if_fault : LineTree → Option ℕ → List Fault → List Fault
if_fault line (Some number) more = fault_of_line line number ∷ more
if_fault line None more = more

-- the faults of these lines, which begin with line k
abbrev pub faults_from : (ℕ → Option ℕ) → ℕ → List LineTree → List Fault
faults_from fault k [] = []
faults_from fault k (line ∷ lines) = if_fault line (fault k) (faults_from fault (suc k) lines)

-- the faults of content of a text
abbrev pub content_faults : List LineTree → Assignment → List Fault
content_faults lines a = faults_from (content_fault lines a) 0 lines

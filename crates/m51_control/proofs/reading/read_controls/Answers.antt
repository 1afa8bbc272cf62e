use Rattle.m51_control.proofs.LineLaws.{line_law}
use Rattle.m51_control.proofs.reading.read_controls.Goals as goal

pub returns-then-line_count-gt-MOST_CONTROL_LINES-clause-grammar :
    goal.returns-then-line_count-gt-MOST_CONTROL_LINES-clause-grammar
returns-then-line_count-gt-MOST_CONTROL_LINES-clause-grammar c = line_law

pub returns-clause-grammar : goal.returns-clause-grammar
returns-clause-grammar c = line_law

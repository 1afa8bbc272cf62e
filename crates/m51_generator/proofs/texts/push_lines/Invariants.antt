use Rattle.std.proofs.Common.{◌≡◌, ◌++◌, drop}
use Rattle.m51_generator.specs.Lines.{lent, lines_as_text}
use Rattle.m51_generator.proofs.texts.push_lines.Given as goal

abbrev pub invariant-loop-line : goal.invariant-loop-line
invariant-loop-line l = l.text.items ++ lines_as_text (lent (drop l.line-index l.lines))
    ≡ l.fn.text.items ++ lines_as_text (lent l.lines)

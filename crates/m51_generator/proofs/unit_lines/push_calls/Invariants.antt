use Rattle.std.proofs.Common.{◌≡◌, ◌+◌, ◌++◌, drop, map}
use Rattle.m51_generator.specs.Lines.{lines_as_text, call_line, calls, children_from}
use Rattle.m51_generator.proofs.unit_lines.push_calls.Given as goal

abbrev pub invariant-loop-index : goal.invariant-loop-index
invariant-loop-index l =
    l.text.items ++ lines_as_text (map call_line (children_from l.parent (l.index + 1) (drop l.index l.units)))
    ≡ l.fn.text.items ++ lines_as_text (calls l.parent l.units)

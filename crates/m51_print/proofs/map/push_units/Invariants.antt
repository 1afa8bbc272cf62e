use Rattle.std.proofs.Common.{◌≡◌, ◌++◌}
use Rattle.m51_print.specs.Map.{unit_lines}
use Rattle.m51_print.proofs.map.push_units.Given as goal

abbrev pub invariant-loop-unit : goal.invariant-loop-unit
invariant-loop-unit l = l.text.items ≡ l.fn.text.items ++ unit_lines l.layout l.roots l.unit

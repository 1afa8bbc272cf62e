use Rattle.m51_graph.proofs.Common.{◌≡◌, ◌++◌, drop, units_from, units_of}
use Rattle.m51_graph.proofs.units.unit_numbers.Given as goal

abbrev pub invariant-loop-number : goal.invariant-loop-number
invariant-loop-number l = l.units.items ++ units_from l.number (drop l.number l.segments) ≡ units_of l.segments

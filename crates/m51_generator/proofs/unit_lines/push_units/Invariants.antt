use Rattle.std.proofs.Common.{◌≡◌, ◌+◌, ◌++◌, drop}
use Rattle.m51_generator.specs.Lines.{units_from}
use Rattle.m51_generator.proofs.unit_lines.push_units.Given as goal

abbrev pub invariant-loop-index : goal.invariant-loop-index
invariant-loop-index l =
    l.text.items ++ units_from l.units (l.index + 1) (drop l.index l.units)
    ≡ l.fn.text.items ++ units_from l.units 1 l.units

use Rattle.std.proofs.Common.{◌≡◌, take, map}
use Rattle.m51_print.specs.Map.{unit_title}
use Rattle.m51_print.proofs.titles.unit_titles.Given as goal

abbrev pub invariant-loop-unit : goal.invariant-loop-unit
invariant-loop-unit l = l.titles.items ≡ map (unit_title l.layout) (take l.unit-index l.units)

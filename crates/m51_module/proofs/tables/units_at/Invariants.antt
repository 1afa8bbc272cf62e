use Rattle.m51_module.specs.Kept.{AreUnitsAt}
use Rattle.m51_module.proofs.tables.units_at.Given as goal

abbrev pub invariant-loop-unit : goal.invariant-loop-unit
invariant-loop-unit l = AreUnitsAt l.parts l.unit l.units_at.items

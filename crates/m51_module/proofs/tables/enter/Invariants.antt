use Rattle.std.proofs.Common.{◌-◌, ◌≤◌}
use Rattle.m51_module.specs.Kept.{IsEntered}
use Rattle.m51_module.proofs.tables.enter.Given as goal

abbrev pub invariant-loop-address : goal.invariant-loop-address
invariant-loop-address l = record {
  from : l.base ≤ l.address;
  entered : IsEntered l.base (l.address - l.base) l.unit l.fn.units_at.items l.units_at.items;
}

use Rattle.std.specs.Prelude.{take}
use Rattle.m51_module.specs.Kept.{IsAddedAt}
use Rattle.m51_module.proofs.rows.add_local.Given as goal

abbrev pub invariant-loop-unit : goal.invariant-loop-unit
invariant-loop-unit l = IsAddedAt (take l.unit-index l.owners) l.segment l.fn.rows.items l.rows.items

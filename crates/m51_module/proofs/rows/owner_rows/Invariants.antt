use Rattle.std.specs.Prelude.{take}
use Rattle.m51_module.specs.Kept.{AreOwnerRows}
use Rattle.m51_module.proofs.rows.owner_rows.Given as goal

abbrev pub invariant-loop-pair : goal.invariant-loop-pair
invariant-loop-pair l = AreOwnerRows (take l.pair-index l.owners) l.count l.rows.items

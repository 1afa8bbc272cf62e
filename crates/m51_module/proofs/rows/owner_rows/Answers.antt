use Rattle.std.proofs.Common.{arith}
use Rattle.m51_module.proofs.KeptRows.{owner_rows_more, pair_within}
use Rattle.m51_module.proofs.rows.owner_rows.Goals as goal

pub add_to-requires : goal.add_to-requires
add_to-requires c = omega (
  arith,
  c.from.ensures,
  pair_within c.args.count c.args.owners.now c.loop-pair.pair-index c.requires c.loop-pair-test.true,
  c.loop-pair.invariant.len,
)

pub loop-pair-preserved : goal.loop-pair-preserved
loop-pair-preserved c =
    rw (c.in_ok-add_to.ensures, c.from.ensures)
    (owner_rows_more _ _ c.loop-pair.pair-index _ c.requires c.loop-pair-test.true c.loop-pair.invariant)

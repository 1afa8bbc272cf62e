use Rattle.std.proofs.Common.{arith}
use Rattle.std.proofs.lemmas.List.{take_all, take_more}
use Rattle.m51_module.proofs.KeptRows.{added_more, different_before}
use Rattle.m51_module.proofs.rows.add_local.Goals as goal

pub add_to-requires : goal.add_to-requires
add_to-requires c =
    omega (
      arith,
      c.from.ensures,
      c.requires.units c.loop-unit.unit-index 0 c.loop-unit-test.true,
      c.loop-unit.invariant.len,
    )

pub loop-unit-preserved : goal.loop-unit-preserved
loop-unit-preserved c =
    rw (
      c.in_ok-add_to.ensures,
      c.from.ensures,
      take_more c.args.owners.now c.loop-unit.unit-index 0 c.loop-unit-test.true,
    )
    (added_more _ c.args.segment c.args.rows.now.items c.loop-unit.rows.items _ c.loop-unit.invariant
    (c.requires.units c.loop-unit.unit-index 0 c.loop-unit-test.true)
    (different_before c.args.owners.now c.loop-unit.unit-index 0 c.requires.different c.loop-unit-test.true))

pub returns : goal.returns
returns c =
    rw (take_all c.loop-unit.unit-index c.args.owners.now c.loop-unit-test.false) at c.loop-unit.invariant

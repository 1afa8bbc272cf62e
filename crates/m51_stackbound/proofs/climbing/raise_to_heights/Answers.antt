use Rattle.m51_stackbound.proofs.Common.{arith, Contains-get_or, Reset, point_at}
use Rattle.m51_stackbound.proofs.Raised.{climbing_next, climbing_none}
use Rattle.m51_stackbound.proofs.climbing.raise_to_heights.Goals as goal

pub loop-point-init : goal.loop-point-init
loop-point-init c = climbing_none _ _ _ c.requires.depths

pub loop-point-preserved : goal.loop-point-preserved
loop-point-preserved c =
    climbing_next _ _ c.args.points.now c.loop-point.point-index (point_at Reset 0 0) _ _ _ c.loop-point-test.true
    (omega (arith, c.raise.ensures.few, c.loop-point.invariant.are.len))
    (c.requires.points _
    (Contains-get_or c.args.points.now c.loop-point.point-index (point_at Reset 0 0) c.loop-point-test.true))
    (omega (arith, c.height_of.ensures.value, c.height_of.ensures.few)) c.loop-point.invariant
    (rw c.height_of.ensures.value at c.raise.ensures.raised)

use Rattle.m51_stackbound.proofs.Common.{arith, take_all, Reset, point_at}
use Rattle.m51_stackbound.proofs.Ways.{nexts_more}
use Rattle.m51_stackbound.proofs.paths.note_all.Goals as goal

pub loop-point-preserved : goal.loop-point-preserved
loop-point-preserved c =
    nexts_more _ _ _ _ _ (point_at Reset 0 0) c.loop-point-test.true _ _
    (omega (arith, c.note_next.ensures.few, c.loop-point.invariant.len)) (cc) c.loop-point.invariant

pub returns : goal.returns
returns c = rw (take_all c.loop-point.point-index c.args.points.now (omega arith)) at c.loop-point.invariant

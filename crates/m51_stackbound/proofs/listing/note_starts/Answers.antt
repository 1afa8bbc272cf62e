use Rattle.m51_stackbound.proofs.Common.{refl, arith, take_all, Reset, point_at}
use Rattle.m51_stackbound.proofs.Procs.{starts_more}
use Rattle.m51_stackbound.proofs.listing.note_starts.Goals as goal

pub loop-point-preserved : goal.loop-point-preserved
loop-point-preserved c =
    rw c.note_start.ensures.noted
    (starts_more _ _ (point_at Reset 0 0) c.loop-point-test.true _ _ refl c.note_start.ensures.few
    c.loop-point.invariant)

pub returns : goal.returns
returns c = rw (take_all c.loop-point.point-index c.args.points.now (omega arith)) at c.loop-point.invariant

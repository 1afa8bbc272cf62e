use Rattle.m51_stackbound.proofs.Common.{arith, take_all, Reset, point_at}
use Rattle.m51_stackbound.proofs.Leasts.{breach_more, breach_passes}
use Rattle.m51_stackbound.proofs.judging.first_breach.Goals as goal
use Rattle.m51_stackbound.proofs.judging.first_breach.Goals.{then-breaks_at, else-breaks_at}

pub loop-point-preserved : goal.loop-point-preserved
loop-point-preserved c =
    let none = point_at Reset 0 0 in
    elim c.if-breaks_at.branch [
      | then-breaks_at w ↦
          rw (w.least-is, w.lesser.ensures, w.reached_address.ensures)
          (breach_more _ _ _ _ _ none _ c.loop-point-test.true (cc) c.loop-point.invariant)
      | else-breaks_at w ↦
          rw w.least-is (breach_passes _ _ _ _ _ none _ c.loop-point-test.true (cc) c.loop-point.invariant)
    ]

pub returns : goal.returns
returns c = rw (take_all c.loop-point.point-index c.args.points.now (omega arith)) at c.loop-point.invariant

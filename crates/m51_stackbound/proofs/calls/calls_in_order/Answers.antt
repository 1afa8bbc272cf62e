use Rattle.std.proofs.lemmas.List.{append-nil}
use Rattle.m51_stackbound.proofs.Common.{arith, Reset, point_at}
use Rattle.m51_stackbound.proofs.CallRows.{calls_more}
use Rattle.m51_stackbound.proofs.calls.calls_in_order.Goals as goal
use Rattle.m51_stackbound.proofs.calls.calls_in_order.Goals.{in-Some+in_ok-push-in-Some, in-None}

pub loop-point-preserved : goal.loop-point-preserved
loop-point-preserved c =
    let more = calls_more c.args.layout.now c.args.image.now c.args.points.now c.loop-point.point-index
    (point_at Reset 0 0) c.loop-point-test.true in
    elim c.match-call_from.branch [
      | in-Some+in_ok-push-in-Some w ↦ grind (arith, w.in_ok-push-in-Some.ensures.items)
      | in-None w ↦ grind (arith, append-nil c.loop-point.calls.items)
    ]

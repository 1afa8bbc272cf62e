use Rattle.m51_resolve.proofs.Common.{arith, ◌<◌, ◌*◌, length}
use Rattle.m51_resolve.proofs.JoinSteps.{joined_more}
use Rattle.m51_resolve.proofs.joining.join_all.Goals as goal

pub join-requires : goal.join-requires
join-requires c =
    record { ends = grind (arith, c.loop-segment.invariant.0); numbers = c.loop-segment.invariant.1 }

pub loop-segment-preserved : goal.loop-segment-preserved
loop-segment-preserved c =
    let there : c.loop-segment.segment-index < length c.args.segments.now = omega arith in (
      rw c.in_ok-push.ensures.items
          (joined_more _ c.loop-segment.invariant.0 there c.segment-item.is c.in_ok-join.ensures.joins
          (c.in_ok-join.ensures.grows (65790 * c.loop-segment.segment-index) c.loop-segment.invariant.0.ends)),
      c.in_ok-join.ensures.numbers,
    )

use Rattle.m51_stackbound.proofs.Common.{arith, none_in_empty}
use Rattle.m51_stackbound.proofs.CallRows.{cleared_more, cleared_none}
use Rattle.m51_stackbound.proofs.walking.cleared.Goals as goal

pub loop-start-init : goal.loop-start-init
loop-start-init c = (
  rw c.in_ok-found.ensures (λ a k. absurd (none_in_empty a k)),
  cleared_none _ 65536 _ (omega arith) c.in_ok-cleared.ensures,
)

pub loop-start-preserved : goal.loop-start-preserved
loop-start-preserved c = (
  c.in_ok-is_clear.ensures.closed,
  rw c.mark_if.ensures.marked
      (cleared_more _ _ _ _ c.mark_if.ensures.few c.in_ok-is_clear.ensures.apart c.loop-start.invariant.1),
)

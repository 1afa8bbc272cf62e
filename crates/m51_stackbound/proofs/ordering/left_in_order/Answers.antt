use Rattle.m51_stackbound.proofs.Common.{length-replicate}
use Rattle.m51_stackbound.proofs.ordering.left_in_order.Goals as goal
use Rattle.m51_stackbound.proofs.ordering.left_in_order.Goals.{in-Some+in_ok-follow}
use Rattle.m51_stackbound.proofs.ordering.left_in_order.Goals.{in_default+then-first-lt-ADDRESSES+in_ok-enter}

pub loop-init : goal.loop-init
loop-init c = rw (c.in_ok-entered.ensures, length-replicate)

pub loop-preserved : goal.loop-preserved
loop-preserved c = elim c.match-pop.branch [
  | in-Some+in_ok-follow w ↦ rw w.entered-is w.follow.ensures
  | in_default+then-first-lt-ADDRESSES+in_ok-enter w ↦ rw w.entered-is w.enter.ensures
]

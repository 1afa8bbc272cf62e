use Rattle.m51_place.proofs.Common.{[], drop, put_all, ◌≡◌}
use Rattle.m51_place.proofs.ordering.in_order.Given as goal

abbrev pub invariant-loop-next : goal.invariant-loop-next
invariant-loop-next l = put_all l.order.items (drop l.next-index l.ranked) ≡ put_all [] l.ranked

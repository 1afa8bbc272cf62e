use Rattle.m51_stackbound.proofs.Common.{◌≡◌, length}
use Rattle.m51_stackbound.proofs.ordering.left_in_order.Given as goal

abbrev pub invariant-loop : goal.invariant-loop
invariant-loop l = length l.entered.items ≡ 65536

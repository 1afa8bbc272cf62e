use Rattle.m51_graph.proofs.OrderKeys.{AreOrders}
use Rattle.m51_graph.proofs.ordering.order_names.Given as goal

abbrev pub invariant-loop-number : goal.invariant-loop-number
invariant-loop-number l = AreOrders l.own l.segments l.number l.names.keys

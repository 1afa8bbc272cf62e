use Rattle.m51_graph.proofs.edge_list.EdgeList.none.Goals as goal

pub invariant_of-result : goal.invariant_of-result
invariant_of-result c = rw (c.in_ok-none.ensures.pairs, c.new.ensures.items)

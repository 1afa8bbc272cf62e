use Rattle.m51_graph.proofs.Common.{◌∙◌}
use Rattle.m51_graph.proofs.edge_list.EdgeList.has.Goals as goal

pub returns : goal.returns
returns c = rw (← c.self.view_is) (c.has.ensures ∙ (λ i. c.self.invariant i c.args.edge.0 c.args.edge.1))

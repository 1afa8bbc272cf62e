use Rattle.m51_graph.proofs.EdgeLaws.{edges_are}
use Rattle.m51_graph.proofs.laws.edges_are_drawn.Goals as goal

pub returns : goal.returns
returns c = edges_are

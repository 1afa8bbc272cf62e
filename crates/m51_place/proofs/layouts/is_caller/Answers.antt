use Rattle.m51_place.proofs.Common.{edge_tells, edge_test, same_from_decides}
use Rattle.m51_place.proofs.layouts.is_caller.Goals as goal

pub returns : goal.returns
returns c =
    let edges = c.args.graph.now.edges in
    same_from_decides c.edge.result (edge_test edges c.args.caller c.args.unit) c.edge.ensures
    (edge_tells edges c.args.caller c.args.unit)

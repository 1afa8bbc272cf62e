use Rattle.m51_graph.proofs.graphs.Graph.conflict.Goals as goal

pub returns-in-Some-Some : goal.returns-in-Some-Some
returns-in-Some-Some c =
    c.are_owners_related.ensures c.args.one c.args.two
    (record { own = c.in-Some-Some.ensures.own; argument = c.is_argument.ensures.argument })
    (record { own = c.in-Some-Some.ensures'.own; argument = c.is_argument-in-Some-Some.ensures.argument })

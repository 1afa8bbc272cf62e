use Rattle.m51_graph.proofs.Common.{◌∙◌, Decides-at}
use Rattle.m51_graph.proofs.Relations.{owners_are, conflict_tells}
use Rattle.m51_graph.proofs.graphs.Graph.are_owners_related.Goals as goal

pub returns : goal.returns
returns c =
    let g = c.self.inside.parts in
    let t = c.self.inside.tables in
    let kept = c.self.invariant in
    rw (← c.self.view_is)
    (λ s u is is'.
    Decides-at c.are_related.result _
    (c.are_related.ensures
    ∙ owners_are g t kept.tables c.args.one c.args.two (kept.graph.units.own c.args.one.own s is.own)
    (kept.graph.units.own c.args.two.own u is'.own))
    (conflict_tells g t kept s u c.args.one c.args.two is is'))

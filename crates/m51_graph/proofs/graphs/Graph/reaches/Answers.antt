use Rattle.m51_graph.proofs.Common.{ℕ, Bool, ap, ◌∙◌, Decides-at}
use Rattle.m51_graph.proofs.Deciding.{leads_tells}
use Rattle.m51_graph.proofs.graphs.Graph.reaches.Goals as goal

pub returns : goal.returns
returns c =
    let g = c.self.inside.parts in
    rw (← c.self.view_is)
    (Decides-at c.has.result _
    (c.has.ensures ∙ ap (λ (p : ℕ → ℕ → Bool). p c.args.from c.args.to) c.self.invariant.tables.reach)
    (leads_tells g.edges c.args.from c.args.to))

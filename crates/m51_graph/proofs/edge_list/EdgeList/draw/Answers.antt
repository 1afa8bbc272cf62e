use Rattle.m51_graph.proofs.Common.{◌≡◌, refl, sym, ap, ◌∙◌, true, false, Edges, edge_test, has_edge}
use Rattle.m51_relations.specs.Rows.{with_pair}
use Rattle.m51_graph.proofs.Closed.{edge_pushed}
use Rattle.m51_graph.proofs.edge_list.EdgeList.draw.Goals as goal

pub invariant_of-self-then-not-has : goal.invariant_of-self-then-not-has
invariant_of-self-then-not-has c =
    c.put.ensures.pairs ∙ ap (with_pair c.args.edge.0 c.args.edge.1) c.self.invariant
    ∙ sym (edge_pushed c.self.inside.list.items c.args.edge)
    ∙ ap (λ (edges : Edges). edge_test edges) (sym c.in_ok-push.ensures.items)

pub returns-in_ok-push-clause-drawn : goal.returns-in_ok-push-clause-drawn
returns-in_ok-push-clause-drawn c =
    let new : has_edge c.self.inside.list.items c.args.edge ≡ false =
    (λ i. sym c.self.invariant i c.args.edge.0 c.args.edge.1) ∙ sym c.has.ensures ∙ c.if-not-has.true in
    rw (← c.self.view_is) (λ _. rw new c.in_ok-push.ensures.items)

pub returns-else-not-has-clause-drawn : goal.returns-else-not-has-clause-drawn
returns-else-not-has-clause-drawn c =
    let old : has_edge c.self.inside.list.items c.args.edge ≡ true =
    (λ i. sym c.self.invariant i c.args.edge.0 c.args.edge.1) ∙ sym c.has.ensures ∙ c.if-not-has.false in
    rw (← c.self.view_is) (λ _. rw old refl)

use Rattle.m51_graph.proofs.Common.{◌≤◌, List, ℕ, length, sym, ap, subst, ◌∙◌, LeadWithin, GraphParts}
use Rattle.m51_graph.proofs.Within.{parts_fit, titles_are}
use Rattle.m51_graph.proofs.building.graph_over.Goals as goal

pub judge-requires-clause-units : goal.judge-requires-clause-units
judge-requires-clause-units c =
    let segments = c.args.segments.now in
    let made = c.args.made.list in
    rw (c.in_ok-parts.ensures, c.requires.titles)
    (parts_fit segments c.args.controls.now made
    (subst (λ (names : List (List ℕ)). length names ≤ 1000) c.requires.titles c.titles.ensures.few)
    (subst (λ (names : List (List ℕ)). LeadWithin (length names) made) c.requires.titles c.requires.made))

pub judge-requires-clause-titles : goal.judge-requires-clause-titles
judge-requires-clause-titles c =
    ap (λ (names : List (List ℕ)). length names) (c.titles-2.ensures.titles ∙ c.requires.titles)
    ∙ titles_are c.args.segments.now ∙ sym (ap (λ (g : GraphParts). length g.units) c.in_ok-parts.ensures)

use Rattle.m51_graph.proofs.Common.{ℕ, ◌∙◌, filter, not}
use Rattle.m51_graph.proofs.drawing.uncut.Goals as goal

pub returns : goal.returns
returns c =
    c.in_ok-outside.ensures
    ∙ (λ i. filter (λ (edge : ℕ × ℕ). not (c.in_ok-cut.ensures edge.0 edge.1 i)) c.args.edges.now)

use Rattle.m51_graph.proofs.Common.{ℕ, Bool, ap, subst, ◌∙◌}
use Rattle.m51_cells.specs.Outcome.{Gives}
use Rattle.m51_resolve.specs.Rules.{but_memory}
use Rattle.m51_graph.specs.Graphs.{judged_by}
use Rattle.m51_graph.specs.Leading.{leads}
use Rattle.m51_graph.proofs.judging.judge.Goals as goal

pub reach_rows-requires-clause-within : goal.reach_rows-requires-clause-within
reach_rows-requires-clause-within c =
    rw (c.as_slice.ensures, c.len.ensures) c.requires.units.edges

pub judge_by-requires-clause-reach : goal.judge_by-requires-clause-reach
judge_by-requires-clause-reach c = c.in_ok-reach.ensures.pairs ∙ ap leads c.as_slice.ensures

pub returns : goal.returns
returns c =
    subst (λ (p : ℕ → ℕ → Bool). Gives (λ g. g) but_memory c.judge_by.result
    (judged_by p c.args.titles.now c.args.parts))
    (c.in_ok-reach.ensures.pairs ∙ ap leads c.as_slice.ensures) c.judge_by.ensures

use Rattle.m51_sim.proofs.Common.{◌∙◌, arith}
use Rattle.m51_sim.proofs.Going.{counting_on, counting_start, over_at_event, tally_over}
use Rattle.m51_sim.proofs.runs.count_run.Goals as goal

pub loop-done-init : goal.loop-done-init
loop-done-init g c = record {
  fixed = search;
  counting = counting_start (g.B.Runnable.machine (g.B.Runnable.fixed c.args.board.now)) _;
}

pub loop-done-preserved : goal.loop-done-preserved
loop-done-preserved g c = record {
  fixed = c.in-Ok.ensures.fixed ∙ c.loop-done.invariant.fixed;
  counting = counting_on c.loop-done.invariant.counting _ _ _
      (rw c.loop-done.invariant.fixed at c.in-Ok.ensures.step) c.count_of-entries.ensures.value
      c.count_of-entries.ensures.few;
}

pub returns-in-Err-clause-tally : goal.returns-in-Err-clause-tally
returns-in-Err-clause-tally g c =
    let over = over_at_event c.loop-done.invariant.counting.going c.args.n _ c.in-Err.event (omega arith)
    (rw c.loop-done.invariant.fixed at c.in-Err.ensures.step) in
    rw c.cycle.ensures (tally_over c.loop-done.invariant.counting over)

pub returns-in-Err-clause-last : goal.returns-in-Err-clause-last
returns-in-Err-clause-last g c =
    let over = over_at_event c.loop-done.invariant.counting.going c.args.n _ c.in-Err.event (omega arith)
    (rw c.loop-done.invariant.fixed at c.in-Err.ensures.step) in
    over.last

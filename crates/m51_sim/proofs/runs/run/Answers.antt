use Rattle.m51_sim.proofs.Common.{◌≡◌, ◌∙◌, arith}
use Rattle.m51_sim.proofs.Going.{going_start, going_on, cut_in_entry, over_at_event, over_at_last, whole_at_end}
use Rattle.m51_sim.proofs.Going.{cut_at_end}
use Rattle.m51_sim.proofs.runs.run.Goals as goal

pub loop-done-init : goal.loop-done-init
loop-done-init g c = record {
  fixed = search;
  later = omega arith;
  going = going_start (g.B.Runnable.machine (g.B.Runnable.fixed c.args.board.now)) _ _;
}

pub loop-done-preserved : goal.loop-done-preserved
loop-done-preserved g c = record {
  fixed = c.in-Ok.ensures.fixed ∙ c.loop-done.invariant.fixed;
  later = omega (arith, c.in-Ok-write_told.ensures.cause.later);
  going = going_on c.loop-done.invariant.going _ _ (rw c.loop-done.invariant.fixed at c.in-Ok.ensures.step) _
      c.in-Ok-write_told.ensures.whole;
}

pub returns-in-Err-write_told-clause-ended : goal.returns-in-Err-write_told-clause-ended
returns-in-Err-write_told-clause-ended g c =
    cut_in_entry c.loop-done.invariant.going _ _ (rw c.loop-done.invariant.fixed at c.in-Ok.ensures.step) _ _ _
    (omega arith) c.in-Err-write_told.ensures.short

pub returns-in-Err-write_end-clause-ended : goal.returns-in-Err-write_end-clause-ended
returns-in-Err-write_end-clause-ended g c =
    let fixed = c.loop-done.invariant.fixed in
    cut_at_end
    (over_at_event c.loop-done.invariant.going _ _ _ (omega arith) (rw fixed at c.in-Err.ensures.step)) _ _
    (rw (c.placed.ensures, c.in-Err.ensures.fixed, fixed, c.cycle.ensures) at c.in-Err-write_end.ensures.short)

pub returns-in-Err-clause-ended : goal.returns-in-Err-clause-ended
returns-in-Err-clause-ended g c =
    let fixed = c.loop-done.invariant.fixed in
    whole_at_end
    (over_at_event c.loop-done.invariant.going _ _ _ (omega arith) (rw fixed at c.in-Err.ensures.step)) _ _
    (rw (c.placed.ensures, c.in-Err.ensures.fixed, fixed, c.cycle.ensures) at c.in-Ok-write_end.ensures.whole)

pub returns-in-Err-write_end-2-clause-ended : goal.returns-in-Err-write_end-2-clause-ended
returns-in-Err-write_end-2-clause-ended g c =
    let all : c.loop-done.done ≡ c.args.n = omega arith in
    cut_at_end (over_at_last c.loop-done.invariant.going _ all) _ _
    (rw (c.cycle-2.ensures, ← all) at c.in-Err-write_end-2.ensures.short)

pub returns-clause-ended : goal.returns-clause-ended
returns-clause-ended g c =
    let all : c.loop-done.done ≡ c.args.n = omega arith in
    whole_at_end (over_at_last c.loop-done.invariant.going _ all) _ _
    (rw (c.cycle-2.ensures, ← all) at c.in-Ok-write_end-2.ensures.whole)

use Rattle.std.proofs.Common.{◌≡◌, arith, refl}
use Rattle.std.proofs.lemmas.List.{get_or-replicate}
use Rattle.m51_steps.specs.Ram.{nothing_shown}
use Rattle.m51_steps.proofs.Running.{run_adds_up, run_counted, run_cut_in_note, run_cut_in_step, run_end, run_end_cut}
use Rattle.m51_steps.proofs.Running.{run_event_adds_up, run_event_counted, run_event_cut, run_event_end, run_on}
use Rattle.m51_steps.proofs.Running.{run_start}
use Rattle.m51_steps.proofs.stepping.run_noted.Goals as goal

pub returns-in-Err-clause-noted : goal.returns-in-Err-clause-noted
returns-in-Err-clause-noted g c = run_cut_in_note c.loop-done.invariant.running _ c.in-Err.ensures.front

pub returns-in-Ok-end-clause-noted : goal.returns-in-Ok-end-clause-noted
returns-in-Ok-end-clause-noted g c =
    run_event_end c.loop-done.invariant.running (omega arith) _ c.in-Ok.ensures.whole _ c.step_written.new.board
    c.in-Ok-Some.event c.step_written.ensures.layout (rw c.in-Ok-Some.field-0-is at c.in-Ok-Some.ensures.step) _
    c.in-Ok-end.ensures.whole

pub returns-in-Ok-end-clause-counted : goal.returns-in-Ok-end-clause-counted
returns-in-Ok-end-clause-counted g c =
    (run_event_counted c.loop-done.invariant.running (omega arith) _ c.in-Ok.ensures.whole _ c.step_written.new.board
    c.in-Ok-Some.event c.step_written.ensures.layout (rw c.in-Ok-Some.field-0-is at c.in-Ok-Some.ensures.step)).agrees

pub returns-in-Ok-end-clause-totals : goal.returns-in-Ok-end-clause-totals
returns-in-Ok-end-clause-totals g c =
    run_event_adds_up c.loop-done.invariant.running (omega arith) _ c.in-Ok.ensures.whole _ c.step_written.new.board
    c.in-Ok-Some.event c.step_written.ensures.layout (rw c.in-Ok-Some.field-0-is at c.in-Ok-Some.ensures.step)
    c.steps_are_short.ensures

pub returns-in-Err-end-clause-noted : goal.returns-in-Err-end-clause-noted
returns-in-Err-end-clause-noted g c =
    run_event_cut c.loop-done.invariant.running (omega arith) _ c.in-Ok.ensures.whole _ c.step_written.new.board
    c.in-Ok-Some.event c.step_written.ensures.layout (rw c.in-Ok-Some.field-0-is at c.in-Ok-Some.ensures.step) _
    c.in-Err-end.ensures.front

pub returns-in-Err-step_written-clause-noted : goal.returns-in-Err-step_written-clause-noted
returns-in-Err-step_written-clause-noted g c =
    run_cut_in_step c.loop-done.invariant.running (omega arith) _ c.in-Ok.ensures.whole _ c.step_written.new.board _
    c.in-Err-step_written.ensures.step

pub returns-in-Err-write_note-clause-noted : goal.returns-in-Err-write_note-clause-noted
returns-in-Err-write_note-clause-noted g c =
    let all : c.loop-done.done ≡ c.args.n = omega arith in
    run_cut_in_note (rw all at c.loop-done.invariant.running) _ c.in-Err-write_note.ensures.front

pub returns-in-Ok-end-2-clause-noted : goal.returns-in-Ok-end-2-clause-noted
returns-in-Ok-end-2-clause-noted g c =
    let all : c.loop-done.done ≡ c.args.n = omega arith in
    run_end (rw all at c.loop-done.invariant.running) refl _ _ c.in-Ok-write_note.ensures.whole
    c.in-Ok-end-2.ensures.whole

pub returns-in-Ok-end-2-clause-counted : goal.returns-in-Ok-end-2-clause-counted
returns-in-Ok-end-2-clause-counted g c = (run_counted c.loop-done.invariant.running (omega arith)).agrees

pub returns-in-Ok-end-2-clause-totals : goal.returns-in-Ok-end-2-clause-totals
returns-in-Ok-end-2-clause-totals g c =
    run_adds_up c.loop-done.invariant.running (omega arith) c.steps_are_short.ensures

pub returns-in-Err-end-2-clause-noted : goal.returns-in-Err-end-2-clause-noted
returns-in-Err-end-2-clause-noted g c =
    let all : c.loop-done.done ≡ c.args.n = omega arith in
    run_end_cut (rw all at c.loop-done.invariant.running) refl _ _ c.in-Ok-write_note.ensures.whole
    c.in-Err-end-2.ensures.front

pub loop-done-preserved : goal.loop-done-preserved
loop-done-preserved g c = record {
  later = omega (
    arith,
    c.loop-done.invariant.later,
    c.in-Ok.ensures.cause.later,
    c.in-Ok-None.ensures.cause.later,
  );
  running = run_on c.loop-done.invariant.running (omega arith) _ c.in-Ok.ensures.whole _ c.step_written.new.board _ _
      (omega arith) c.steps_are_short.ensures c.step_written.ensures.layout c.step_written.ensures.image
      c.step_written.ensures.script c.in-Ok.ensures.shown (rw c.in-Ok-None.field-0-is at c.in-Ok-None.ensures.step)
      (rw (c.place_of-place.ensures.place, c.passed_since.ensures, c.cycle_of-start.ensures.value) at c.add.ensures)
      (rw c.place_of-place.ensures.place at c.place_of-place.ensures.bound)
      (rw c.cycle_of-start.ensures.value at c.cycle_of-start.ensures.bound);
}

pub loop-done-init : goal.loop-done-init
loop-done-init g c = record {
  later = omega arith;
  running = run_start _ c.args.shape.now c.args.n c.args.board.now _ c.args.counts.now
      (λ a small. get_or-replicate 256 a nothing_shown 0 small) c.requires.blank;
}

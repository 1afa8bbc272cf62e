use Rattle.std.proofs.Common.{◌≤◌}
use Rattle.std.specs.Prelude.{slice_index}
use Rattle.m51_steps.proofs.Running.{IsRunning}
use Rattle.m51_steps.proofs.stepping.run_noted.Given as goal

abbrev pub invariant-loop-done : goal.invariant-loop-done
invariant-loop-done g l = record {
  later : (g.S.Sink.state l.fn.out).faults ≤ (g.S.Sink.state l.out).faults;
  running : IsRunning (g.S.Sink.state l.fn.out).text (g.S.Sink.state l.out).text l.shape l.n l.fn.board l.done l.board
      (slice_index l.shown) l.counts;
}

use Rattle.m51_sim.proofs.Common.{◌≡◌, ◌≤◌}
use Rattle.m51_sim.proofs.Going.{IsGoing}
use Rattle.m51_sim.proofs.runs.run.Given as goal

abbrev pub invariant-loop-done : goal.invariant-loop-done
invariant-loop-done g l = record {
  fixed : g.B.Runnable.fixed l.board ≡ g.B.Runnable.fixed l.fn.board;
  later : (g.S.Sink.state l.fn.out).faults ≤ (g.S.Sink.state l.out).faults;
  going : IsGoing (g.S.Sink.state l.fn.out).text (g.S.Sink.state l.out).text
      (g.B.Runnable.machine (g.B.Runnable.fixed l.fn.board)) (g.B.Runnable.state l.fn.board) l.done
      (g.B.Runnable.state l.board);
}

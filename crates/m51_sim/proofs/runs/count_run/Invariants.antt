use Rattle.m51_sim.proofs.Common.{◌≡◌}
use Rattle.m51_sim.proofs.Going.{IsCounting}
use Rattle.m51_sim.proofs.runs.count_run.Given as goal

abbrev pub invariant-loop-done : goal.invariant-loop-done
invariant-loop-done g l = record {
  fixed : g.B.Runnable.fixed l.board ≡ g.B.Runnable.fixed l.fn.board;
  counting : IsCounting (g.B.Runnable.machine (g.B.Runnable.fixed l.fn.board)) (g.B.Runnable.state l.fn.board) l.done
      (g.B.Runnable.state l.board) l.entries;
}

use Rattle.m51_party.proofs.Common.{◌≡◌, ◌≤◌, length}
use Rattle.m51_party.proofs.Progress.{AllInProgress, steps_left}
use Rattle.m51_party.proofs.running.write_steps.Given as goal

abbrev pub invariant-loop-chosen : goal.invariant-loop-chosen
invariant-loop-chosen g l = record {
  count : length l.seats ≡ length l.fn.seats;
  later : (g.S.Sink.state l.fn.out).faults ≤ (g.S.Sink.state l.out).faults;
  going : AllInProgress l.fn.seats l.n (g.S.Sink.state l.fn.out).text (g.S.Sink.state l.out).text l.seats;
}

abbrev pub decreases-loop-chosen : goal.decreases-loop-chosen
decreases-loop-chosen g l = steps_left l.n l.seats

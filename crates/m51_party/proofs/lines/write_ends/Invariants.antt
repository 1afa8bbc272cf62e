use Rattle.m51_party.proofs.Common.{◌≤◌}
use Rattle.m51_party.proofs.Fronts.{IsEnding}
use Rattle.m51_party.proofs.lines.write_ends.Given as goal

abbrev pub invariant-loop-index : goal.invariant-loop-index
invariant-loop-index g l = record {
  later : (g.S.Sink.state l.fn.out).faults ≤ (g.S.Sink.state l.out).faults;
  ending : IsEnding (g.S.Sink.state l.fn.out).text (g.S.Sink.state l.out).text l.index l.seats;
}

use Rattle.std.proofs.Common.{◌≤◌}
use Rattle.std.specs.Prelude.{codes, length}
use Rattle.m51_steps.specs.Lines.{tab}
use Rattle.m51_steps.specs.Ram.{active_title}
use Rattle.m51_steps.proofs.Listed.{IsListing}
use Rattle.m51_steps.proofs.active.write_active.Given as goal

abbrev pub invariant-loop-unit : goal.invariant-loop-unit
invariant-loop-unit g l = record {
  later : (g.S.Sink.state l.fn.out).faults ≤ (g.S.Sink.state l.out).faults;
  listing : IsListing (g.S.Sink.state l.fn.out).text (g.S.Sink.state l.out).text
      (active_title l.monitor.layout l.monitor.records) tab (codes ",") (length l.monitor.layout.units) l.unit l.mark;
}

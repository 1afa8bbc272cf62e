use Rattle.std.proofs.Common.{◌≤◌}
use Rattle.std.specs.Prelude.{codes, slice_index}
use Rattle.m51_steps.specs.Lines.{tab}
use Rattle.m51_steps.specs.Ram.{change_text}
use Rattle.m51_steps.proofs.Listed.{IsListing}
use Rattle.m51_steps.proofs.ram.write_changes.Given as goal

abbrev pub invariant-loop-address : goal.invariant-loop-address
invariant-loop-address g l = record {
  later : (g.S.Sink.state l.fn.out).faults ≤ (g.S.Sink.state l.out).faults;
  listing : IsListing (g.S.Sink.state l.fn.out).text (g.S.Sink.state l.out).text
      (change_text (slice_index l.shown) (slice_index l.now)) tab (codes " ") 256 l.address l.mark;
}

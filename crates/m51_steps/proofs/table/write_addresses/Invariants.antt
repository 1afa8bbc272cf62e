use Rattle.std.proofs.Common.{◌≤◌, []}
use Rattle.m51_steps.specs.Counts.{address_line, table_in}
use Rattle.m51_steps.proofs.Listed.{IsListing}
use Rattle.m51_steps.proofs.table.write_addresses.Given as goal

abbrev pub invariant-loop-address : goal.invariant-loop-address
invariant-loop-address g l = record {
  later : (g.S.Sink.state l.fn.out).faults ≤ (g.S.Sink.state l.out).faults;
  listing : IsListing (g.S.Sink.state l.fn.out).text (g.S.Sink.state l.out).text
      (address_line l.image (table_in l.counts)) [] [] l.count l.address [];
}

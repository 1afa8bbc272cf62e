use Rattle.std.proofs.Common.{◌≤◌, []}
use Rattle.m51_steps.specs.Counts.{table_in, vector_line}
use Rattle.m51_steps.proofs.Listed.{IsListing}
use Rattle.m51_steps.proofs.table.write_vectors.Given as goal

abbrev pub invariant-loop-source : goal.invariant-loop-source
invariant-loop-source g l = record {
  later : (g.S.Sink.state l.fn.out).faults ≤ (g.S.Sink.state l.out).faults;
  listing : IsListing (g.S.Sink.state l.fn.out).text (g.S.Sink.state l.out).text
      (vector_line (table_in l.counts)) [] [] l.count l.source [];
}

use Rattle.std.proofs.Common.{arith}
use Rattle.m51_steps.specs.Counts.{vector_lines}
use Rattle.m51_steps.proofs.Listed.{listing_cut, listing_end, listing_on, listing_start}
use Rattle.m51_steps.proofs.Tabled.{no_mark}
use Rattle.m51_steps.proofs.table.write_vectors.Goals as goal

pub loop-source-init : goal.loop-source-init
loop-source-init g c = record { later = omega arith; listing = listing_start _ _ _ _ _ }

pub loop-source-preserved : goal.loop-source-preserved
loop-source-preserved g c = record {
  later = omega (arith, c.loop-source.invariant.later, c.in-Ok.ensures.cause.later);
  listing = listing_on c.loop-source.invariant.listing _ _ (omega arith) c.put_vector-len.ensures.written _ (no_mark _)
      c.in-Ok.ensures.whole;
}

pub returns-in-Err-clause-front : goal.returns-in-Err-clause-front
unfolding vector_lines
returns-in-Err-clause-front g c = listing_cut c.loop-source.invariant.listing _ _ (omega arith)
    c.put_vector-len.ensures.written c.in-Err.ensures.front

pub returns-clause-whole : goal.returns-clause-whole
unfolding vector_lines
returns-clause-whole g c = listing_end c.loop-source.invariant.listing (omega arith)

use Rattle.std.proofs.Common.{arith}
use Rattle.m51_steps.specs.Counts.{address_lines}
use Rattle.m51_steps.proofs.Listed.{listing_cut, listing_end, listing_on, listing_start}
use Rattle.m51_steps.proofs.Tabled.{no_mark}
use Rattle.m51_steps.proofs.table.write_addresses.Goals as goal

pub loop-address-init : goal.loop-address-init
loop-address-init g c = record { later = omega arith; listing = listing_start _ _ _ _ _ }

pub loop-address-preserved : goal.loop-address-preserved
loop-address-preserved g c = record {
  later = omega (arith, c.loop-address.invariant.later, c.in-Ok.ensures.cause.later);
  listing = listing_on c.loop-address.invariant.listing _ _ (omega arith) c.put_address-len.ensures.written _
      (no_mark _) c.in-Ok.ensures.whole;
}

pub returns-in-Err-clause-front : goal.returns-in-Err-clause-front
unfolding address_lines
returns-in-Err-clause-front g c = listing_cut c.loop-address.invariant.listing _ _ (omega arith)
    c.put_address-len.ensures.written c.in-Err.ensures.front

pub returns-clause-whole : goal.returns-clause-whole
unfolding address_lines
returns-clause-whole g c = listing_end c.loop-address.invariant.listing (omega arith)

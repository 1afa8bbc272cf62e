use Rattle.std.proofs.Common.{arith}
use Rattle.m51_steps.proofs.Listed.{listing_cut, listing_end, listing_on, listing_start}
use Rattle.m51_steps.proofs.ram.write_changes.Goals as goal

pub loop-address-init : goal.loop-address-init
loop-address-init g c = record { later = omega arith; listing = listing_start _ _ _ _ _ }

pub loop-address-preserved : goal.loop-address-preserved
loop-address-preserved g c = record {
  later = omega (arith, c.loop-address.invariant.later, c.in-Ok.ensures.cause.later);
  listing = listing_on c.loop-address.invariant.listing _ _ (omega arith) c.put_change-len.ensures.written _
      c.mark_after-mark.ensures c.in-Ok.ensures.whole;
}

pub returns-in-Err-clause-front : goal.returns-in-Err-clause-front
returns-in-Err-clause-front g c = listing_cut c.loop-address.invariant.listing _ _ (omega arith)
    c.put_change-len.ensures.written c.in-Err.ensures.front

pub returns-clause-whole : goal.returns-clause-whole
returns-clause-whole g c = listing_end c.loop-address.invariant.listing (omega arith)

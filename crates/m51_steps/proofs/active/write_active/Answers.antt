use Rattle.std.proofs.Common.{ap, arith, length}
use Rattle.m51_module.specs.declared.parts.LayoutParts.{LayoutParts}
use Rattle.m51_steps.proofs.Listed.{listing_cut, listing_end, listing_on, listing_start}
use Rattle.m51_steps.proofs.active.write_active.Goals as goal

pub loop-unit-init : goal.loop-unit-init
loop-unit-init g c = record { later = omega arith; listing = listing_start _ _ _ _ _ }

pub loop-unit-preserved : goal.loop-unit-preserved
loop-unit-preserved g c = record {
  later = omega (arith, c.loop-unit.invariant.later, c.in-Ok.ensures.cause.later);
  listing = listing_on c.loop-unit.invariant.listing _ _
      (omega (arith, ap length c.units-count.ensures.list, ap (λ (k : LayoutParts). length k.units) c.layout.ensures))
      c.active_title-title.ensures _ c.mark_after-mark.ensures c.in-Ok.ensures.whole;
}

pub returns-in-Err-clause-front : goal.returns-in-Err-clause-front
returns-in-Err-clause-front g c = listing_cut c.loop-unit.invariant.listing _ _
    (omega (arith, ap length c.units-count.ensures.list, ap (λ (k : LayoutParts). length k.units) c.layout.ensures))
    c.active_title-title.ensures c.in-Err.ensures.front

pub returns-clause-whole : goal.returns-clause-whole
returns-clause-whole g c = listing_end c.loop-unit.invariant.listing
    (omega (arith, ap length c.units-count.ensures.list, ap (λ (k : LayoutParts). length k.units) c.layout.ensures))

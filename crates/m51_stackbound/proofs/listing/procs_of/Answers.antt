use Rattle.m51_stackbound.proofs.Common.{refl}
use Rattle.m51_stackbound.proofs.Procs.{listed_more, listed_none, listed_same}
use Rattle.m51_stackbound.proofs.listing.procs_of.Goals as goal
use Rattle.m51_stackbound.proofs.listing.procs_of.Goals.{then-starts-address+in_ok-push, else-starts-address}

pub loop-address-init : goal.loop-address-init
loop-address-init c = rw c.new-procs.ensures.items (listed_none _ _ _)

pub loop-address-preserved : goal.loop-address-preserved
loop-address-preserved c = elim c.if-starts-address.branch [
  | then-starts-address+in_ok-push w ↦
      rw (w.procs-is, w.in_ok-push.ensures.items)
      (listed_more _ _ _ _ _ _ refl
      (record {
        noted = w.if-starts-address.true;
        unit = w.unit_number.ensures;
        depth = w.depth_in.ensures.value;
      }) c.loop-address.invariant)
  | else-starts-address w ↦
      rw w.procs-is (listed_same _ _ _ _ _ w.if-starts-address.false c.loop-address.invariant)
]

use Rattle.m51_stackbound.proofs.Common.{arith, At, CallsThrough}
use Rattle.std.proofs.Common.{below_more}
use Rattle.m51_stackbound.proofs.CallRows.{rows_are, leads_from, through_from}
use Rattle.m51_stackbound.proofs.Deciding.{all_low, first_is, none_is}
use Rattle.m51_stackbound.proofs.Raised.{low_not_cyclic}
use Rattle.m51_stackbound.proofs.cycling.first_cyclic.Goals as goal

pub returns-then-not-is_too_deep : goal.returns-then-not-is_too_deep
returns-then-not-is_too_deep c = λ start h.
    low_not_cyclic _ _ _ _ c.requires.points c.requires.depths start (all_low c.args.depths.now (cc) start) h

pub loop-address-preserved : goal.loop-address-preserved
loop-address-preserved c =
    let rows = rows_are _ _ _ _ _ c.requires.points c.requires.calls c.in_ok-rows.ensures in
    let is = rw c.deref-in-loop-address.ensures.value at c.in_ok-is_cyclic.ensures in
    below_more (λ a. CallsThrough c.args.layout.now c.args.image.now (At a) a → ⊥) _ c.loop-address.invariant
    (λ h. absurd (cc (is.1 (leads_from _ _ _ rows _ _ h), c.if-branch.false)))

pub returns-then-branch : goal.returns-then-branch
returns-then-branch c =
    let rows = rows_are _ _ _ _ _ c.requires.points c.requires.calls c.in_ok-rows.ensures in
    let is = rw c.deref-in-loop-address.ensures.value at c.in_ok-is_cyclic.ensures in
    first_is _ _ _ (through_from _ _ _ rows _ _ (is.0 c.if-branch.true)) c.loop-address.invariant

pub returns : goal.returns
returns c =
    none_is _ _ _ _ c.requires.points c.requires.depths
    (λ a below h. c.loop-address.invariant a (omega (arith, below, c.loop-address-test.false)) h)

use Rattle.std.proofs.Common.{◌||◌}
use Rattle.m51_stackbound.proofs.Common.{◌≡◌, arith, Contains-get_or, Reset, Call}
use Rattle.m51_stackbound.proofs.Raised.{raised_next, raised_none}
use Rattle.m51_stackbound.proofs.climbing.raise_all.Goals as goal
use Rattle.m51_stackbound.proofs.climbing.raise_all.Goals.{then-raise, else-raise}

pub loop-call-init : goal.loop-call-init
loop-call-init c = raised_none _ _ _ c.requires.depths

pub loop-call-preserved : goal.loop-call-preserved
loop-call-preserved c =
    let none : Call = record { from = Reset; height = 0; to = 0 } in
    let rose : (c.raise.result || c.loop-call.rose) ≡ c.if-raise.rose =
    elim c.if-raise.branch [ then-raise w ↦ grind arith | else-raise w ↦ grind arith ] in
    rw (← rose)
    (raised_next _ _ c.args.calls.now c.loop-call.call-index none _ _ _ _ _ c.loop-call-test.true
    (omega (arith, c.raise.ensures.few, c.loop-call.invariant.are.len))
    (c.requires.calls _ (Contains-get_or c.args.calls.now c.loop-call.call-index none c.loop-call-test.true))
    c.loop-call.invariant (rw c.depth_by-depth.ensures at c.raise.ensures.raised))

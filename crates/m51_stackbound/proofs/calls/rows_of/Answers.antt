use Rattle.m51_stackbound.proofs.Common.{arith, take_more, Reset, Call}
use Rattle.m51_stackbound.proofs.CallRows.{rows_more, rows_none}
use Rattle.m51_stackbound.proofs.calls.rows_of.Goals as goal

pub loop-call-init : goal.loop-call-init
loop-call-init c = rows_none _ _ (omega arith) c.in_ok-rows.ensures

pub loop-call-preserved : goal.loop-call-preserved
loop-call-preserved c =
    let none : Call = record { from = Reset; height = 0; to = 0 } in
    rw (c.in_ok-add_to.ensures.added, take_more c.args.calls.now c.loop-call.call-index none c.loop-call-test.true)
    (rows_more _ _ _ c.add_to.ensures.few c.loop-call.invariant)

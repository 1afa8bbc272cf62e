use Rattle.std.proofs.Common.{rules}
use Rattle.m51_module.proofs.KeptRows.{row_is}
use Rattle.m51_stackbound.proofs.Common.{◌≡◌, ◌<◌, arith, get_or, callee_row}
use Rattle.m51_stackbound.proofs.CallRows.{walk_first, walk_step, walk_done}
use Rattle.m51_stackbound.proofs.walking.walk.Goals as goal

pub loop-next-init : goal.loop-next-init
loop-next-init c =
    let few : c.args.from < 65536 = search rules in
    let kept = row_is c.args.rows.now c.from.result _ (omega (arith, c.from.ensures, c.requires, few))
    c.index-rows-from.is in
    let row : callee_row c.args.rows.now c.args.from ≡ c.as_slice.result.now = cc in (
      omega (arith, c.len-next.ensures.value),
      rw c.len-next.ensures.value (walk_first _ _ _ _ (rw row c.in_ok-note_all.ensures)),
    )

pub loop-next-preserved : goal.loop-next-preserved
loop-next-preserved c =
    let few : c.at-via.result < 65536 = search rules in
    let kept = row_is c.args.rows.now c.from-in-loop-next.result _
    (omega (arith, c.from-in-loop-next.ensures, c.requires, few)) c.index-rows-from-in-loop-next.is in
    let row : callee_row c.args.rows.now (get_or c.loop-next.found c.loop-next.next 0)
    ≡ c.as_slice-in-loop-next.result.now = cc in (
      omega (arith, c.loop-next.invariant.0),
      walk_step _ _ _ _ _ _ c.loop-next.invariant.0 (omega (arith, c.loop-next-test.true, c.len.ensures.value))
          c.loop-next.invariant.1 (rw row c.in_ok-note_all-2.ensures),
    )

pub returns : goal.returns
returns c =
    walk_done _ _ _ _ _ (omega (arith, c.loop-next-test.false, c.len.ensures.value)) c.loop-next.invariant.1

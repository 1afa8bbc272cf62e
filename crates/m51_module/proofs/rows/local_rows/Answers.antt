use Rattle.std.proofs.Common.{◌≡◌, length, sym, ◌∙◌, subst, arith}
use Rattle.m51_module.specs.Kept.{IsRowAlong}
use Rattle.m51_module.proofs.KeptRows.{local_rows_more, row_is}
use Rattle.m51_module.proofs.rows.local_rows.Goals as goal

pub add_local-requires : goal.add_local-requires
add_local-requires c =
    rw (c.as_slice.ensures, c.loop-segment.invariant.len)
    (subst (IsRowAlong c.args.count) (sym c.index-rows-segment.is)
    (c.requires.rows c.loop-segment.segment c.index-rows-segment.result c.loop-segment-test.true))

pub loop-segment-preserved : goal.loop-segment-preserved
loop-segment-preserved c =
    local_rows_more c.args.rows.now c.args.count c.loop-segment.segment c.loop-segment.locals.items
    c.add_local.new.rows.items c.as_slice.result.now
    c.loop-segment.invariant
    (row_is c.args.rows.now c.loop-segment.segment c.index-rows-segment.result c.loop-segment-test.true
    c.index-rows-segment.is ∙ sym c.as_slice.ensures)
    c.in_ok-add_local.ensures

pub returns : goal.returns
returns c =
    let done : c.loop-segment.segment ≡ length c.args.rows.now =
    omega (arith, c.loop-segment-test.false, c.loop-segment.auto.segment-end) in
    rw done at c.loop-segment.invariant

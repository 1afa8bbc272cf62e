use Rattle.std.proofs.Common.{[], ◌∷◌, ◌++◌, ◌+◌, length, sym, ap, subst, ◌∙◌, arith, length-append}
use Rattle.std.proofs.lemmas.Result.{err_from_is_err_and}
use Rattle.m51_cells.specs.Outcome.{RefusesWith}
use Rattle.m51_frame.specs.Fields.{record_refusal}
use Rattle.m51_records.proofs.FrameLaws.{frame_stops, value_stops, one_more, all_read}
use Rattle.m51_records.proofs.record.read_records.Goals as goal

pub returns-in_err-contents-clause-value : goal.returns-in_err-contents-clause-value
returns-in_err-contents-clause-value g c =
    let p = err_from_is_err_and c.from_residual.result c.from_residual.ensures.1 in
    rw (p.1, p.2)
    (frame_stops _ _ _ _ _ _ _ _
    c.begins.ensures (c.args.number + c.len.result) (omega arith) c.loop-alloc.invariant.stands
    c.in_err-contents.field-0.0 c.loop-alloc-test.true c.in_err-contents.ensures.value)

pub returns-in_err-item-clause-value : goal.returns-in_err-item-clause-value
returns-in_err-item-clause-value g c =
    let p = err_from_is_err_and c.from_residual-in_err-item.result c.from_residual-in_err-item.ensures.1 in
    let refused =
    subst (λ read. RefusesWith (record_refusal c.in_err-item.field-0.0)
    (read c.deref.result.now c.checksum_place-end.result c.in_ok-contents.contents.now))
    c.loop-alloc.invariant.same c.in_err-item.ensures.value in
    rw (p.1, p.2)
    (value_stops _ _ _ _ _ _ _ _
    c.begins.ensures (c.args.number + c.len.result) (omega arith) c.loop-alloc.invariant.stands
    c.checksum_place-end.result c.deref.result.now c.in_ok-contents.contents.now c.in_ok-contents.after.now
    c.loop-alloc-test.true c.in_ok-contents.ensures.value c.checksum_place-end.ensures c.deref.ensures.value
    c.in_err-item.field-0.0 refused)

pub loop-alloc-preserved : goal.loop-alloc-preserved
loop-alloc-preserved g c = record {
  stands = one_more c.args.record_type (g.R.Reader.reads c.args.reader) c.args.total c.args.number _ _ _
      c.begins.result c.begins.ensures (c.args.number + c.len.result) (omega arith) c.loop-alloc.invariant.stands
      c.checksum_place-end.result c.deref.result.now c.in_ok-contents.contents.now c.in_ok-contents.after.now
      c.loop-alloc-test.true c.in_ok-contents.ensures.value c.checksum_place-end.ensures c.deref.ensures.value
      c.push.new.items.items c.in_ok-item.item
      (ap (λ read. read c.deref.result.now c.checksum_place-end.result c.in_ok-contents.contents.now)
      (sym c.loop-alloc.invariant.same) ∙ c.in_ok-item.ensures.value)
      c.in_ok-push.ensures c.in_ok-contents.ensures.shorter;
  same = c.in_ok-item.ensures.same ∙ c.loop-alloc.invariant.same;
  knows = subst (g.R.Reader.knows c.read.new.self)
      (ap (λ before. before ++ c.in_ok-item.item ∷ []) c.deref.ensures.value ∙ sym c.in_ok-push.ensures)
      c.in_ok-item.ensures.knows;
  few = omega (
    arith,
    ap length c.in_ok-push.ensures,
    length-append c.loop-alloc.items.items (c.in_ok-item.item ∷ []),
    c.in_ok-contents.ensures.shorter,
    c.loop-alloc.invariant.few,
  );
}

pub returns-clause-value : goal.returns-clause-value
returns-clause-value g c =
    all_read _ _ _ _ _ _ _ _
    c.begins.ensures (c.args.number + length c.loop-alloc.items.items) (omega arith) c.loop-alloc.invariant.stands
    c.loop-alloc-test.false

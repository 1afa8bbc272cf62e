use Rattle.m51_resolve.proofs
use proofs.Common.{◌≡◌, sym, ap, ◌∙◌, map, [], all_segments, parts_after, all_externals, public_definition}
use proofs.Common.{unless_refused, all_growing}
use Rattle.m51_resolve.specs.WorkNames.{resolving_by}
use proofs.Answering.{err_gives, growing_refused, joined_is, later_rules, meets, none_large}
use proofs.Tables.{definitions_are}
use Rattle.m51_resolve.proofs.resolving.join_chosen.Goals as goal

pub returns-in_err-check_externals : goal.returns-in_err-check_externals
returns-in_err-check_externals c =
    let externals : c.deref-3.result.now ≡ all_externals c.args.modules.items = cc c.in_ok-externals.ensures.all in
    err_gives _ c.args.modules.items _ _ c.from_residual-in_err-check_externals.ensures.1
    (later_rules _ _ _ _ c.requires c.deref.ensures.value c.in_ok-check_publics.ensures externals _
    c.in_err-check_externals.ensures)

pub returns-in_err-check_segments : goal.returns-in_err-check_segments
returns-in_err-check_segments c =
    let modules = c.args.modules.items in
    let externals : c.deref-3.result.now ≡ all_externals modules = cc c.in_ok-externals.ensures.all in
    let growing : c.deref-6.result.now ≡ all_growing (all_segments modules) =
    cc (c.in_ok-growing.ensures.0, c.in_ok-segments.ensures.all) in
    err_gives _ modules _ _ c.from_residual-in_err-check_segments.ensures.1
    (growing_refused _ _ _ _ c.requires c.deref.ensures.value c.in_ok-check_publics.ensures externals _ _
    c.in_ok-check_externals.ensures growing c.in_err-check_segments.ensures)

pub segments_of-requires : goal.segments_of-requires
segments_of-requires c =
    rw (c.deref-7.ensures.value, ← c.deref-6.ensures.value)
    (none_large c.deref-6.result.now c.in_ok-check_segments.ensures)

pub invariant_of-result : goal.invariant_of-result
invariant_of-result c =
    let modules = c.args.modules.items in
    let externals_are : c.deref-3.result.now ≡ all_externals modules = cc c.in_ok-externals.ensures.all in
    let segments_are : c.deref-5.result.now ≡ all_segments modules = cc c.in_ok-segments.ensures.all in
    let growing_is : c.deref-6.result.now ≡ all_growing (all_segments modules) = cc c.in_ok-growing.ensures.0 in
    record {
      valid = rw (← c.deref-4.ensures.value) c.in_ok-segments.ensures.valid;
      resolved = meets modules
          (growing_refused _ _ _ _ c.requires c.deref.ensures.value c.in_ok-check_publics.ensures externals_are _ _
          c.in_ok-check_externals.ensures growing_is c.in_ok-check_segments.ensures);
      segments = c.in_ok-joined.ensures
          ∙ joined_is modules c.deref-7.result.now (c.deref-7.ensures.value ∙ sym c.deref-6.ensures.value ∙ growing_is);
      segment_starts = rw (← c.deref-4.ensures.value) c.in_ok-segments.ensures.starts;
      parts = c.in_ok-growing.ensures.1 ∙ ap (parts_after []) segments_are;
      public_starts = rw (← c.deref-2.ensures.value) c.in_ok-externals.ensures.starts;
      publics = c.in_ok-publics.ensures
          ∙ ap (λ f. map (resolving_by f) c.deref-8.result.now)
          (definitions_are modules c.args.definitions.now.entries c.requires)
          ∙ ap (map (resolving_by (public_definition modules)))
          (cc);
    }

pub returns : goal.returns
returns c =
    let modules = c.args.modules.items in
    let externals : c.deref-3.result.now ≡ all_externals modules = cc c.in_ok-externals.ensures.all in
    let growing : c.deref-6.result.now ≡ all_growing (all_segments modules) =
    cc (c.in_ok-growing.ensures.0, c.in_ok-segments.ensures.all) in
    ap (unless_refused modules)
    (growing_refused _ _ _ _ c.requires c.deref.ensures.value c.in_ok-check_publics.ensures externals _ _
    c.in_ok-check_externals.ensures growing c.in_ok-check_segments.ensures)

use Rattle.m51_place.proofs
use proofs.Common.{IsSound, JoinedSegment, Numbered, joined_base, length, parts_of_layout, range_with_len, segments_of}
use proofs.Common.{List, ap, map, subst, sym, ◌∙◌}
use proofs.Ranks.{graph_is}
use proofs.SoundLayout.{places_are, sound}
use proofs.Whole.{numbered, placed_whole}
use proofs.placing.place_all.Goals as goal

pub parts_of_layout-requires : goal.parts_of_layout-requires
parts_of_layout-requires c =
    let all = placed_whole _ _ _ _ c.requires c.modules.ensures.valid c.modules.ensures.resolved c.lines.ensures.kept
    c.in_ok-located.ensures in
    record {
      few = rw c.deref-2.ensures.value all.few;
      numbered = rw c.deref-2.ensures.value
          (numbered _ (graph_is c.args.joined.now c.args.controls.now _ c.requires) all.spots);
    }

pub make-requires : goal.make-requires
make-requires c =
    let all = placed_whole _ _ _ _ c.requires c.modules.ensures.valid c.modules.ensures.resolved c.lines.ensures.kept
    c.in_ok-located.ensures in
    subst IsSound (sym (c.in_ok-parts.ensures ∙ ap (parts_of_layout c.args.graph.now) c.deref-2.ensures.value))
    (sound _ c.args.controls.now _ (graph_is c.args.joined.now c.args.controls.now _ c.requires) c.parts.ensures.kept _
    all)

pub returns-clause-bases : goal.returns-clause-bases
returns-clause-bases c =
    let g = c.args.graph.now in
    let segments : List JoinedSegment = segments_of c.args.joined.now in
    let located : List Numbered = c.in_ok-located.located.items in
    let all = placed_whole _ _ _ _ c.requires c.modules.ensures.valid c.modules.ensures.resolved c.lines.ensures.kept
    c.in_ok-located.ensures in
    let bases = c.of.ensures ∙ c.in_ok-bases.ensures
    ∙ ap (λ (es : List Numbered). map (joined_base es) (range_with_len 0 (length c.segments.result.now)))
    c.deref.ensures.value
    ∙ ap (λ (js : List JoinedSegment). map (joined_base located) (range_with_len 0 (length js)))
    c.segments.ensures.list in
    let layout = c.in_ok-layout.ensures ∙ c.in_ok-parts.ensures ∙ ap (parts_of_layout g) c.deref-2.ensures.value in
    rw (layout, bases) (places_are g segments located all)

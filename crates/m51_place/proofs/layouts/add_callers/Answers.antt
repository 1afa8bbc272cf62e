use Rattle.m51_place.proofs.Common.{Bool, List, append-nil, append_assoc, edge_test, filter, pairs_with, range_with_len}
use Rattle.m51_place.proofs.Common.{[], cond, sym, ℕ, ◌++◌, ◌+◌, ◌∙◌, ◌∷◌, ◌≡◌}
use Rattle.m51_cells.proofs.Small.{range_more}
use Rattle.std.proofs.lemmas.List.{map-append}
use Rattle.std.proofs.lemmas.List.Elements.{filter-append}
use Rattle.m51_place.proofs.layouts.add_callers.Goals.{else-is_caller, then-is_caller+in_ok-push}
use Rattle.m51_place.proofs.layouts.add_callers.Goals as goal

more_pairs : (p : ℕ → Bool) (index count : ℕ) (old now : List (ℕ × ℕ))
    → now ≡ old ++ pairs_with index (filter p (range_with_len 0 count))
    → now ++ pairs_with index (cond (p count) (count ∷ []) [])
    ≡ old ++ pairs_with index (filter p (range_with_len 0 (count + 1)))
more_pairs p index count old now is =
    let before : List ℕ = filter p (range_with_len 0 count) in
    rw (
      is,
      range_more count,
      filter-append p (range_with_len 0 count) (count ∷ []),
      map-append {B = ℕ × ℕ} (λ unit. (index, unit)) before (cond (p count) (count ∷ []) []),
      append_assoc,
    )

pub loop-caller-preserved : goal.loop-caller-preserved
loop-caller-preserved c =
    let p : ℕ → Bool = λ caller. edge_test c.args.graph.now.edges caller c.args.unit in
    let more =
    more_pairs p c.args.index c.loop-caller.caller c.args.pairs.now.items c.loop-caller.pairs.items
    c.loop-caller.invariant in
    elim c.if-is_caller.branch [
      | then-is_caller+in_ok-push w ↦ rw (w.pairs-is, w.in_ok-push.ensures.items)
          (rw (sym c.is_caller.ensures ∙ w.if-is_caller.true) at more)
      | else-is_caller w ↦ rw (w.pairs-is)
          (sym (append-nil c.loop-caller.pairs.items) ∙ rw (sym c.is_caller.ensures ∙ w.if-is_caller.false) at more)
    ]

-- What files of these proofs import, and the elements of a list with their numbers.
use Rattle.m51_place.specs
pub use Rattle.m51_bases.specs.Raising.{EndsWithin}
pub use Rattle.m51_cells.proofs.KindLaws.{absolute_is, code_is, overlay_kind, overlay_reloc}
pub use Rattle.m51_cells.proofs.Members.{In, Pairs, at_in, pairs_at, pairs_got}
pub use Rattle.m51_cells.specs.Extent.{Covers, Meet, extent_of}
pub use Rattle.m51_cells.specs.Fits.{Fits, allows}
pub use Rattle.m51_cells.specs.Kinds.{is_absolute, is_code}
pub use Rattle.m51_cells.specs.declared.cell.Space.{Space}
pub use Rattle.m51_cells.specs.declared.cell.Space.TheVariants.{Ram, Xram}
pub use Rattle.m51_cells.specs.declared.kind.Kind.{Kind}
pub use Rattle.m51_cells.specs.declared.kind.Kind.TheVariants.{Code, Direct, Number, Xdata}
pub use Rattle.m51_cells.specs.declared.kind.Reloc.{Reloc}
pub use Rattle.m51_cells.specs.declared.kind.Reloc.TheVariants.{Abs, Unit as UnitType}
pub use Rattle.m51_control.specs.Controls.{AreKept, IsAllowed}
pub use Rattle.m51_control.specs.declared.control.Control.{Control}
pub use Rattle.m51_graph.proofs.Climbing.{ends_on, one_if, rank_edge, tally, tally_le, tally_mono, walk_short}
pub use Rattle.m51_graph.proofs.Closed.{edge_tells}
pub use Rattle.m51_graph.proofs.Drawn.{drop_rest}
pub use Rattle.m51_graph.proofs.Relations.{above_tells}
pub use Rattle.m51_graph.specs.Drawing.{edge_test, edges_of, fixup_edges}
pub use Rattle.m51_graph.specs.Graph.{AreBits, IsArgument, IsGraph, Owns, SegmentsConflict, UnitLiesUnder, joined_graph}
pub use Rattle.m51_graph.specs.Graph.{IsOwn}
pub use Rattle.m51_graph.specs.Graphs.{graph_of, judged, lies_under, parts_of, passed, unless}
pub use Rattle.m51_graph.specs.Leading.{leads}
pub use Rattle.m51_graph.specs.Units.{code_segments, is_root, roots_from, roots_of, unit_titles, units_from, units_of}
pub use Rattle.m51_graph.specs.declared.parts.GraphParts.{GraphParts}
pub use Rattle.m51_module.proofs.Conflicts.{conflict_back, related_there, same_back, under_there}
pub use Rattle.m51_module.proofs.Owning.{contains_behind, first_or_behind, none_in_empty}
pub use Rattle.m51_module.proofs.Reach.{reach_edge, reach_from}
pub use Rattle.m51_module.specs.Cells.{code_cell, extent_at}
pub use Rattle.m51_module.specs.Chains.{ChainsFrom, ComesFirst, IsHeaviestWalk, data_of, is_overlaid_data, weight_along}
pub use Rattle.m51_module.specs.Chains.{ChainsAt, HasNoRoot, IsHeaviest, is_first, sum_along, weight_of}
pub use Rattle.m51_module.specs.Conflict.{AreRelated, Before, FirstPlain, FirstUnderNone, SecondPlain, SecondUnderNone}
pub use Rattle.m51_module.specs.Conflict.{After, Owners, Same, UnderTwo}
pub use Rattle.m51_module.specs.Laws.{HaveSameUnits}
pub use Rattle.m51_module.specs.Plan.{IsRootAt, IsSegment, layout_graph, owners_of}
pub use Rattle.m51_module.specs.Program.{ProgramGraph}
pub use Rattle.m51_module.specs.Roots.{LiesUnder, vectors}
pub use Rattle.m51_module.specs.Sound.{IsFit, IsInside, IsSound}
pub use Rattle.m51_module.specs.Walks.{Edges, HasEdge, IsWalk, Reaches, last_of}
pub use Rattle.m51_module.specs.declared.linked.Chain.{Chain}
pub use Rattle.m51_module.specs.declared.linked.Refusal.{Refusal}
pub use Rattle.m51_module.specs.declared.linked.Refusal.TheVariants.{L12}
pub use Rattle.m51_module.specs.declared.parts.LayoutParts.{LayoutParts}
pub use Rattle.m51_module.specs.declared.parts.ModuleParts.{ModuleParts}
pub use Rattle.m51_module.specs.declared.placed.Mark.{Mark}
pub use Rattle.m51_module.specs.declared.placed.Mark.TheVariants.{Absolute, Overlaid, Plain}
pub use Rattle.m51_module.specs.declared.placed.Placed.{Placed}
pub use Rattle.m51_module.specs.declared.segment.Segment.{Segment}
pub use Rattle.m51_resolve.specs.Joining.{segments_of}
pub use Rattle.m51_resolve.specs.Rules.{AreResolved}
pub use Rattle.m51_resolve.specs.declared.segment.JoinedSegment.{JoinedSegment}
pub use Rattle.std.proofs.Common.{Option, Result, append_assoc, filter, get_or, length-append, slice_index, unwrap_or}
pub use Rattle.std.proofs.Common.{Bool, List, None, Some, arith, codes, cond, drop, false, length, nat_eq, refl, subst}
pub use Rattle.std.proofs.Common.{Err, inl, inr, map, min, not, set, suc, sum, sym, take, true, zero, ◌&&◌, ◌++◌, ◌||◌}
pub use Rattle.std.proofs.Common.{Ok, [], ap, ℕ, ◌%◌, ◌*◌, ◌+◌, ◌-◌, ◌/◌, ◌<◌, ◌∙◌, ◌∷◌, ◌≡◌, ◌≢◌, ◌≤◌, ◌⊎◌}
pub use Rattle.std.proofs.lemmas.Bool.{cases_Bool, cases_order, false_from_ne_true, false≢true, true_from_ne_false}
pub use Rattle.std.proofs.lemmas.Bool.{and_parts, cases_eq, cases_lt, eq-eqb, eqb-true, ltb-false, ltb-true, not-false}
pub use Rattle.std.proofs.lemmas.Bool.{lt-ltb, ne_eqb, not-true, or_cases}
pub use Rattle.std.proofs.lemmas.Bool.Decides.{nat_tests, same_from_decides}
pub use Rattle.std.proofs.lemmas.List.{append-nil, length-map}
pub use Rattle.std.proofs.lemmas.List.Folds.{Any-from_list_any, find_at, list_any_at}
pub use Rattle.std.proofs.lemmas.List.Sums.{fails_before_first, passes_at_first, prefix_len-le-length, sum_by-cons}
pub use Rattle.std.proofs.lemmas.List.Sums.{sum-map, sum_by-set}
pub use Rattle.std.proofs.lemmas.Option.{get_or_from_slice_get, slice_get-get_or, slice_get-map, slice_get_within}
pub use Rattle.std.proofs.lemmas.Option.{none-some, same_Some}
pub use Rattle.std.specs.Bool.{Decides}
pub use Rattle.std.specs.List.{All, Contains, cons_option, insert, list_all, list_any, position_or_len, range_with_len}
pub use Rattle.std.specs.List.{sum_by}
pub use Rattle.std.specs.List.Sorted.{IsPermutation}
pub use Rattle.std.specs.Option.{option_map_or, option_or}
pub use Rattle.std.specs.Prelude.{IfSome, MatchOption, find, is_some, nat_le, nat_lt, position, slice_get, ◌↔◌}
pub use specs.Bases.{HasNoBase, IsApart, IsFree, IsLeastBase, least_base, overlap, share}
pub use specs.Fixed.{absolute, absolutes_from, first_met, reserves_of, shared_after, shared_at, shared_extents}
pub use specs.Fixed.{banks_of}
pub use specs.Heaviest.{AreReached, IsFront, IsHeaviestFrom, IsNext, IsNextAmong, IsRising}
pub use specs.InTheWay.{extents_in, in_the_way}
pub use specs.Laws.{IsInOrder, LeastIsLeast}
pub use specs.Order.{class_number, comes_before, first_sort_key, group_before, order_of, ordered_names, second_sort_key}
pub use specs.Order.{before_by, group_number, own_at, put, put_all, rank_of, ranked_from, ranked_of, root_number}
pub use specs.Placement.{conflicting, in_conflict_with, joined_base, parts_of_layout, placing_from, placing_with}
pub use specs.Placement.{base_for, is_number, located_at, located_of, owner_pairs, pairs_with, place_after}
pub use specs.Ready.{IsNumbered, IsPlaceable}
pub use specs.declared.numbered.Numbered.{Numbered}
pub use specs.declared.ranked.Rank.{Rank}
pub use specs.declared.ranked.Ranked.{Ranked}

abbrev pub with_numbers : {A : Type 0} → ℕ → List A → List (ℕ × A)
with_numbers number [] = []
with_numbers number (x ∷ xs) = (number, x) ∷ with_numbers (number + 1) xs

numbered_from : {A : Type 0} (number : ℕ) (xs : List A) (k : ℕ) (p : ℕ × A)
    → slice_get (with_numbers number xs) k ≡ Some p → (p.0 ≡ number + k) × (slice_get xs k ≡ Some p.1)
numbered_from number [] k p h = absurd (cc h)
numbered_from number (x ∷ xs) zero p h =
    let same : (number, x) ≡ p = cc h in (omega (arith, ap (λ q. q.0) same), ap (λ q. Some q.1) same)
numbered_from number (x ∷ xs) (suc k) p h =
    let rest = numbered_from (number + 1) xs k p h in (omega (arith, rest.0), rest.1)

numbers_from : {A : Type 0} (number : ℕ) (xs : List A) (k : ℕ) (x : A) → slice_get xs k ≡ Some x
    → In (number + k, x) (with_numbers number xs)
numbers_from number [] k x h = absurd (cc h)
numbers_from number (y ∷ xs) zero x h =
    let here : y ≡ x = cc h in let same : number + 0 ≡ number = omega arith in rw (here, same) (inl refl)
numbers_from number (y ∷ xs) (suc k) x h =
    let next : number + 1 + k ≡ number + suc k = omega arith in inr (rw next at (numbers_from (number + 1) xs k x h))

module _ {A : Type 0} (xs : List A) where
  pub number_got : (k : ℕ) (p : ℕ × A) → slice_get (with_numbers 0 xs) k ≡ Some p → (p.0 ≡ k)
      × (slice_get xs k ≡ Some p.1)
  number_got k p h = let of = numbered_from 0 xs k p h in (omega (arith, of.0), of.1)

  -- an element is where its number says
  pub at_number : (p : ℕ × A) → In p (with_numbers 0 xs) → slice_get xs p.0 ≡ Some p.1
  at_number p i =
      let there = at_in (with_numbers 0 xs) p i in
      let of = number_got there.index p there.got in
      rw of.0 of.1

  pub number_at : (k : ℕ) (x : A) → slice_get xs k ≡ Some x → In (k, x) (with_numbers 0 xs)
  number_at k x h = let same : 0 + k ≡ k = omega arith in rw same at (numbers_from 0 xs k x h)

  pub numbers_rise : Pairs (λ (p q : ℕ × A). p.0 < q.0) (with_numbers 0 xs)
  numbers_rise = pairs_got _ _
      (λ i j p q less at at'. omega (arith, less, (number_got i p at).0, (number_got j q at').0))

pub filter_in : {A : Type 0} (test : A → Bool) (xs : List A) (x : A) → In x xs → test x ≡ true → In x (filter test xs)
filter_in test [] x h is = absurd h
filter_in test (y ∷ ys) x (inl e) is = let here : test y ≡ true = ap test e ∙ is in rw here (inl e)
filter_in test (y ∷ ys) x (inr h) is = elim (cases_Bool (test y))
    [ inl e ↦ rw e (inr (filter_in test ys x h is)) | inr e ↦ rw e (filter_in test ys x h is) ]

-- of two elements of a list one index is the other's, or they are a pair, one way round
pub pairs_between : {A : Type 0} (R : A → A → Type 0) (xs : List A) (i j : ℕ) (x y : A) → Pairs R xs
    → slice_get xs i ≡ Some x → slice_get xs j ≡ Some y → (i ≡ j) ⊎ (R x y ⊎ R y x)
pairs_between R xs i j x y h at at' = elim (cases_order i j) [
  | inl same ↦ inl same
  | inr rest ↦ inr (elim rest [
    | inl less ↦ inl (pairs_at R xs i j x y h less at at')
    | inr less ↦ inr (pairs_at R xs j i y x h less at' at)
  ])
]

-- The bases that are free of what was placed before, and the segments that are placed there one after another.
use Rattle.m51_place.proofs
use proofs.Common.{Any-from_list_any, IsPermutation, LeastIsLeast, false_from_ne_true, in_conflict_with, range_with_len}
use proofs.Common.{Decides, GraphParts, IsLeastBase, MatchOption, append_assoc, conflicting, option_map_or, place_after}
use proofs.Common.{HasNoBase, IsApart, and_parts, append-nil, cases_Bool, extent_at, extents_in, false≢true, located_at}
use proofs.Common.{Numbered, Refusal, UnitType, base_for, cases_eq, cases_lt, eqb-true, extent_of, nat_tests, slice_get}
use proofs.Common.{Covers, Direct, IfSome, IsFree, Number, Option, Pairs, Placed, list_all, list_any, ltb-true, overlap}
use proofs.Common.{Bool, Err, Ranked, Reloc, Result, Space, arith, eq-eqb, false, filter, lt-ltb, nat_eq, nat_lt, subst}
use proofs.Common.{Fits, Kind, L12, List, Meet, None, Ram, Some, find, inl, inr, map, not, refl, true, zero, ◌&&◌, ◌++◌}
use proofs.Common.{In, Ok, [], ap, suc, sym, ℕ, ◌*◌, ◌+◌, ◌-◌, ◌<◌, ◌↔◌, ◌∙◌, ◌∷◌, ◌≡◌, ◌≢◌, ◌≤◌, ◌⊎◌}
use Rattle.m51_bases.specs.Raising.{IsClear, IsFirstClear, IsOutside, NoneIsClear, same_space}
use Rattle.m51_cells.proofs.Meeting.{parted, shared}
use Rattle.m51_cells.proofs.Members.{all_every, every_all, every_weaker, in_contains, in_left, pairs_push, total-append}
use Rattle.m51_cells.proofs.Members.{every_in, every_map, every_of, in_cases, in_filter, in_right, map_got, total_map}
use Rattle.m51_cells.proofs.Members.{Every, in_map, map_in, total}
use Rattle.m51_cells.specs.declared.cell.Cell.{Cell}
use Rattle.m51_cells.specs.declared.extent.Extent.{Extent}
use Rattle.m51_graph.proofs.Deciding.{and_decides}
use Rattle.std.proofs.lemmas.Bool.Decides.{Decides-by_and, Decides-like, Decides-not}
use Rattle.std.proofs.lemmas.List.Sorted.{All-permutation, IsPermutation-sym}
use Rattle.m51_place.specs.Bases.{fits_at, is_free, least_base, share}
use Rattle.m51_place.specs.Overlay.{AreOneRun, IsOpen}

-- where no element passes a test, each fails
pub all_fail : {A : Type 0} (test : A → Bool) (xs : List A) → list_any test xs ≡ false → Every (λ x. test x ≡ false) xs
all_fail test [] h = tt
all_fail test (x ∷ xs) h = elim (cases_Bool (test x))
    [ inl is ↦ absurd (cc (rw is at h)) | inr fails ↦ (fails, all_fail test xs (rw fails at h)) ]

-- The decisions on cells and bases are right.

pub space_tells : (a b : Space) → Decides (same_space a b) (a ≡ b)
space_tells a b = (λ h. grind arith, λ h. grind arith)

-- what overlap decides
abbrev Overlaps : Extent → Extent → Type 0
Overlaps a b = ((0 < a.len) × (0 < b.len)) × ((a.first < b.first + b.len) × (b.first < a.first + a.len))

overlap_tells : (a b : Extent) → Decides (overlap a b) (Overlaps a b)
overlap_tells a b = (λ h. grind (arith, nat_tests), λ h. grind (arith, nat_tests))

pub share_tells : (a b : Extent) → Decides (share a b) (Meet a b)
unfolding share
share_tells a b =
    let both : Decides (share a b) ((a.space ≡ b.space) × Overlaps a b) =
    and_decides _ _ (space_tells a.space b.space) (overlap_tells a b) in (
      λ h. let o = both.0 h in shared a b o.0 o.1.0.0 o.1.0.1 o.1.1.0 o.1.1.1,
      λ m. let o = parted a b m in
          let ca : Covers a m.0 = m.1 in
          let cb : Covers b m.0 = m.2 in
          both.1 (sym ca.space ∙ cb.space, ((o.first_some, o.second_some), (o.first_before, o.second_before))),
    )

-- fitting

pub fits_tells : (kind : Kind) (reloc : Reloc) (base size : ℕ)
    → Decides (fits_at kind reloc base size) (Fits kind reloc base size)
unfolding fits_at
fits_tells kind reloc base size = (λ h. grind (arith, nat_tests), λ h. grind (arith, nat_tests))

-- where the cells of segments end
pub cells_end : (kind : Kind) (base size : ℕ) → base < 65536 → size < 65536
    → (extent_of kind base size).first + (extent_of kind base size).len ≤ 1048576
cells_end kind base size b s = grind arith

-- The first base that is found free is the least of all, and so is the first that is clear of the extents in one
-- memory.

-- the first number that passes from one on, before another; or none does
abbrev IsFirst : (ℕ → Bool) → ℕ → ℕ → Option ℕ → Type 0
IsFirst p from end None = (k : ℕ) → from ≤ k → k < end → p k ≡ false
IsFirst p from end (Some x) = (p x ≡ true) × (x < end) × ((k : ℕ) → from ≤ k → k < x → p k ≡ false)

first_later : (p : ℕ → Bool) (from end : ℕ) (found : Option ℕ) → p from ≡ false → IsFirst p (from + 1) end found
    → IsFirst p from end found
first_later p from end None fails h = λ k up below. elim (cases_eq from k)
    [ inl e ↦ rw (← e) fails | inr ne ↦ h k (omega (arith, up, ne)) below ]
first_later p from end (Some x) fails h = (
  h.0,
  h.1,
  λ k up less. elim (cases_eq from k) [ inl e ↦ rw (← e) fails | inr ne ↦ h.2 k (omega (arith, up, ne)) less ],
)

first_found : (p : ℕ → Bool) (n from : ℕ) → IsFirst p from (from + n) (find p (range_with_len from n))
first_found p zero from = λ k up below. absurd (omega (arith, up, below))
first_found p (suc n) from = elim (cases_Bool (p from)) [
  | inl here ↦ rw here (here, omega arith, λ k up less. absurd (omega (arith, up, less)))
  | inr fails ↦
      let next : from + suc n ≡ from + 1 + n = omega arith in
      rw (fails, next) (first_later p from (from + 1 + n) (find p (range_with_len (from + 1) n)) fails
      (first_found p n (from + 1)))
]

pub find_first : (p : ℕ → Bool) (n : ℕ) (found : Option ℕ) → find p (range_with_len 0 n) ≡ found → IsFirst p 0 n found
find_first p n found is = let none : 0 + n ≡ n = omega arith in rw (is, none) at (first_found p n 0)

-- two that are first are one
same_first : (p : ℕ → Bool) (n : ℕ) (one two : Option ℕ) → IsFirst p 0 n one → IsFirst p 0 n two → one ≡ two
same_first p n None None h k = refl
same_first p n None (Some x) h k = absurd (cc (h x (omega arith) k.1, k.0))
same_first p n (Some x) None h k = absurd (cc (k x (omega arith) h.1, h.0))
same_first p n (Some x) (Some y) h k = grind (arith, h.0, k.0, h.2 y (omega arith), k.2 x (omega arith))

-- what is decided to be free is
apart_tells : (cells : Extent) (p : Placed) → Decides (not (share (extent_at p) cells)) (IsApart cells p)
apart_tells cells p =
    Decides-like _ (λ h. record { none = h }) (λ h. h.none) (Decides-not _ (share_tells (extent_at p) cells))

pub free_tells : (others : List Placed) (kind : Kind) (reloc : Reloc) (size base : ℕ)
    → Decides (is_free others kind reloc size base) (IsFree others kind reloc size base)
unfolding is_free
free_tells others kind reloc size base =
    let cells : Extent = extent_of kind base size in
    let free : Placed → Bool = λ p. not (share (extent_at p) cells) in
    Decides-like _ (λ h. record { fits = h.0; apart = h.1 }) (λ h. (h.fits, h.apart))
    (and_decides _ (list_all free others) (fits_tells kind reloc base size)
    (Decides-by_and free (IsApart cells) (list_all free) (apart_tells cells) refl (λ _ _. refl) others))

-- where something fits it ends below 65,536, or it is empty and fits at 32 or at 0
pub fits_below : (kind : Kind) (reloc : Reloc) (base more : ℕ) → Fits kind reloc base (suc more) → base < 65536
fits_below kind reloc base more h = grind arith

pub start : (kind : Kind) → ℕ
start Direct = 32
start _ = 0

start_fits : (kind : Kind) (reloc : Reloc) → kind ≢ Number → Fits kind reloc (start kind) 0
unfolding start
start_fits kind reloc ne = grind arith

start_low : (kind : Kind) → start kind ≤ 32
unfolding start
start_low kind = grind arith

nothing_met : (kind : Kind) (base : ℕ) (e : Extent) → Meet e (extent_of kind base 0) → ⊥
nothing_met kind base e meet = let some = (parted e (extent_of kind base 0) meet).second_some in grind (arith, some)

-- where a base is free, one below 65,536 is
low_free : (others : List Placed) (kind : Kind) (reloc : Reloc) (size base : ℕ) → IsFree others kind reloc size base
    → (low : ℕ) × (low < 65536) × IsFree others kind reloc size low
low_free others kind reloc (suc more) base h = (base, fits_below kind reloc base more h.fits, h)
low_free others kind reloc zero base h = (
  start kind,
  omega (arith, start_low kind),
  record {
    fits = start_fits kind reloc (λ e. rw e at h.fits);
    apart = λ k d below. record { none = λ meet. nothing_met kind (start kind) _ meet };
  },
)

of_found : (others : List Placed) (kind : Kind) (reloc : Reloc) (size : ℕ) (found : Option ℕ)
    → IsFirst (is_free others kind reloc size) 0 65536 found
    → MatchOption found (HasNoBase others kind reloc size) (λ base. IsLeastBase others kind reloc size base)
of_found others kind reloc size None h = λ base free.
    let low = low_free others kind reloc size base free in
    false≢true (sym (h low.0 (omega arith) low.1) ∙ (free_tells others kind reloc size low.0).1 low.2)
of_found others kind reloc size (Some base) h = record {
  free = (free_tells others kind reloc size base).0 h.0;
  least = λ lower less free.
      false≢true (sym (h.2 lower (omega arith) less) ∙ (free_tells others kind reloc size lower).1 free);
}

pub least_is_least : LeastIsLeast
unfolding least_base
least_is_least others kind reloc size = of_found others kind reloc size (least_base others kind reloc size)
    (find_first (is_free others kind reloc size) 65536 (least_base others kind reloc size) refl)

pub least_low : (others : List Placed) (kind : Kind) (reloc : Reloc) (size base : ℕ)
    → least_base others kind reloc size ≡ Some base → base < 65536
unfolding least_base
least_low others kind reloc size base h = (find_first (is_free others kind reloc size) 65536 (Some base) h).1

-- what is clear of the extents in one memory is free
module _ (kind : Kind) (reloc : Reloc) (size : ℕ) (space : Space)
    (in_space : (base : ℕ) → space ≡ (extent_of kind base size).space) where
  -- an extent of another memory shares no cell
  other_memory : (base : ℕ) (p : Placed) → same_space (extent_at p).space space ≡ false
      → IsApart (extent_of kind base size) p
  other_memory base p other = record {
    none = λ meet.
        let a : Covers (extent_at p) meet.0 = meet.1 in
        let b : Covers (extent_of kind base size) meet.0 = meet.2 in
        false≢true
        (sym other ∙ (space_tells (extent_at p).space space).1 (sym a.space ∙ b.space ∙ sym (in_space base)));
  }

  outside_tells : (base : ℕ) (ps : List Placed) → Every (IsOutside (extent_of kind base size)) (extents_in space ps)
      ↔ Every (IsApart (extent_of kind base size)) ps
  outside_tells base [] = (λ h. h, λ h. h)
  outside_tells base (p ∷ more) = let rest = outside_tells base more in
      elim (cases_Bool (same_space (extent_at p).space space)) [
        | inl same ↦ rw same (
          λ h. (record { none = h.0.none }, rest.0 h.1),
          λ h. (record { none = h.0.none }, rest.1 h.1),
        )
        | inr other ↦ rw other (λ h. (other_memory base p other, rest.0 h), λ h. rest.1 h.1)
      ]

  module _ (others : List Placed) (extents : List Extent) (moved : IsPermutation (extents_in space others) extents)
    where
      clear_tells : (base : ℕ) → Decides (is_free others kind reloc size base) (IsClear extents kind reloc size base)
      clear_tells base =
          let P : Extent → Type 0 = IsOutside (extent_of kind base size) in
          let tells = outside_tells base others in
          Decides-like _
          (λ h. record {
            fits = h.fits;
            outside = All-permutation P (extents_in space others) extents moved
                (every_all P _ (tells.1 (all_every _ others h.apart)));
          })
          (λ h. record {
            fits = h.fits;
            apart = every_all _ others (tells.0 (all_every P _
                (All-permutation P extents (extents_in space others) (IsPermutation-sym _ _ moved) h.outside)));
          })
          (free_tells others kind reloc size base)

      not_free : (base : ℕ) → (IsClear extents kind reloc size base → ⊥) → is_free others kind reloc size base ≡ false
      not_free base h = false_from_ne_true _ (λ is. h ((clear_tells base).0 is))

      first_is : (found : Option ℕ)
          → MatchOption found (NoneIsClear extents kind reloc size) (λ base. IsFirstClear extents kind reloc size base)
          → IfSome found (λ b. b < 65536) → IsFirst (is_free others kind reloc size) 0 65536 found
      first_is None h below = λ k up less. not_free k (h k)
      first_is (Some base) h below =
          let first : IsFirstClear extents kind reloc size base = h in
          ((clear_tells base).1 first.clear, below, λ k up less. not_free k (first.none k less))

      pub least_is : (found : Option ℕ)
          → MatchOption found (NoneIsClear extents kind reloc size) (λ base. IsFirstClear extents kind reloc size base)
          → IfSome found (λ b. b < 65536) → found ≡ least_base others kind reloc size
      unfolding least_base
      least_is found h below =
          let test : ℕ → Bool = is_free others kind reloc size in
          same_first test 65536 found (find test (range_with_len 0 65536)) (first_is found h below)
          (find_first test 65536 (find test (range_with_len 0 65536)) refl)

first_below : (extents : List Extent) (kind : Kind) (reloc : Reloc) (size base : ℕ) → kind ≢ Number
    → IsFirstClear extents kind reloc size base → base < 65536
first_below extents kind reloc (suc more) base ne h = fits_below kind reloc base more h.clear.fits
first_below extents kind reloc zero base ne h = elim (cases_lt (start kind) base) [
  | inl less ↦ absurd (h.none (start kind) less (record {
    fits = start_fits kind reloc ne;
    outside = λ k d below. record { none = λ meet. nothing_met kind (start kind) _ meet };
  }))
  | inr up ↦ omega (arith, up, start_low kind)
]

pub found_below : (extents : List Extent) (kind : Kind) (reloc : Reloc) (size : ℕ) (found : Option ℕ) → kind ≢ Number
    → MatchOption found (NoneIsClear extents kind reloc size) (λ base. IsFirstClear extents kind reloc size base)
    → IfSome found (λ b. b < 65536)
found_below extents kind reloc size None ne h = tt
found_below extents kind reloc size (Some base) ne h = first_below extents kind reloc size base ne h

-- Segments that are placed one after another: each at a base that is free.

-- the two extents must not share a cell: one is no segment, or they are segments in conflict
abbrev pub conflicts : GraphParts → Numbered → Numbered → Bool
conflicts g e f = option_map_or (λ number. in_conflict_with g number e) f.number true

pub record KeepApart (g : GraphParts) (e f : Numbered) : Type 0 where
  pub none : conflicts g e f ≡ true → Meet (extent_at e.placed) (extent_at f.placed) → ⊥

-- a segment at its base, where it fits
abbrev pub at_base : Ranked × ℕ → Numbered
at_base p = located_at p.0 p.1

pub record FitsThere (p : Ranked × ℕ) : Type 0 where
  pub low : p.1 < 65536
  pub fits : Fits p.0.segment.kind p.0.segment.reloc p.1 p.0.segment.size

-- what is placed after earlier extents: the segments of the order, each at a base
pub record AreAfter (g : GraphParts) (earlier : List Numbered) (order : List Ranked)
    (located : List Numbered) : Type 0 where
  pub picks : List (Ranked × ℕ)
  pub order_is : order ≡ map (λ (p : Ranked × ℕ). p.0) picks
  pub are : located ≡ earlier ++ map at_base picks
  pub fit : Every FitsThere picks
  pub apart : Pairs (KeepApart g) located

kept_apart : (cells : Extent) (test : Numbered → Bool) (xs : List Numbered)
    → Every (IsApart cells) (map (λ (e : Numbered). e.placed) (filter test xs))
    → Every (λ e. test e ≡ true → IsApart cells e.placed) xs
kept_apart cells test [] h = tt
kept_apart cells test (x ∷ xs) h = elim (cases_Bool (test x)) [
  | inl passes ↦ let all = rw passes at h in (λ _. all.0, kept_apart cells test xs all.1)
  | inr fails ↦ (λ is. absurd (false≢true (sym fails ∙ is)), kept_apart cells test xs (rw fails at h))
]

-- the base of a segment is free
pub record IsFreeFor (g : GraphParts) (earlier : List Numbered) (t : Ranked) (base : ℕ) : Type 0 where
  pub low : base < 65536
  pub fits : Fits t.segment.kind t.segment.reloc base t.segment.size
  pub apart : Every (λ e. in_conflict_with g t.number e ≡ true
      → IsApart (extent_of t.segment.kind base t.segment.size) e.placed) earlier

pub base_is_free : (g : GraphParts) (earlier : List Numbered) (t : Ranked) (base : ℕ) → base_for g earlier t ≡ Some base
    → IsFreeFor g earlier t base
base_is_free g earlier t base h =
    let j = t.segment in
    let others : List Placed = conflicting g t.number earlier in
    let least = rw h at (least_is_least others j.kind j.reloc j.size) in
    record {
      low = least_low others j.kind j.reloc j.size base h;
      fits = least.free.fits;
      apart = kept_apart _ (in_conflict_with g t.number) earlier (all_every _ others least.free.apart);
    }

-- one more is placed, and then the others
pub place_step : (g : GraphParts) (earlier : List Numbered) (t : Ranked) (more : List Ranked) (located : List Numbered)
    (found : Option ℕ) → base_for g earlier t ≡ found
    → option_map_or (λ base. place_after g (earlier ++ located_at t base ∷ []) more) found (Err (L12 t.segment.title))
    ≡ Ok located
    → (base : ℕ) × (base_for g earlier t ≡ Some base)
    × (place_after g (earlier ++ located_at t base ∷ []) more ≡ Ok located)
place_step g earlier t more located None is h = absurd (cc h)
place_step g earlier t more located (Some base) is h = (base, is, h)

pub are_after : (g : GraphParts) (order : List Ranked) (earlier located : List Numbered)
    → Pairs (KeepApart g) earlier → place_after g earlier order ≡ Ok located → AreAfter g earlier order located
are_after g [] earlier located apart h =
    let same : earlier ≡ located = cc h in
    record {
      picks = [];
      order_is = refl;
      are = sym same ∙ sym (append-nil earlier);
      fit = tt;
      apart = rw (← same) apart;
    }
are_after g (t ∷ more) earlier located apart h =
    let next = place_step g earlier t more located (base_for g earlier t) refl h in
    let e : Numbered = located_at t next.0 in
    let free = base_is_free g earlier t next.0 next.1 in
    let rest =
    are_after g more (earlier ++ e ∷ []) located
    (pairs_push (KeepApart g) earlier e apart
    (every_weaker _ (λ x. KeepApart g x e) earlier (λ x h. record { none = λ c. (h c).none }) free.apart)) next.2 in
    record {
      picks = (t, next.0) ∷ rest.picks;
      order_is = ap (λ (ts : List Ranked). t ∷ ts) rest.order_is;
      are = rest.are ∙ append_assoc earlier (e ∷ []) (map at_base rest.picks);
      fit = (record { low = free.low; fits = free.fits }, rest.fit);
      apart = rest.apart;
    }

module _ {g : GraphParts} {earlier located : List Numbered} {order : List Ranked}
    (after : AreAfter g earlier order located) where
  pub pick_in : (p : Ranked × ℕ) → In p after.picks → In p.0 order
  pick_in p i = rw after.order_is (map_in (λ (q : Ranked × ℕ). q.0) after.picks p i)

  pub pick_at : (k : ℕ) (p : Ranked × ℕ) → slice_get after.picks k ≡ Some p → slice_get order k ≡ Some p.0
  pick_at k p at = rw after.order_is (map_got (λ (q : Ranked × ℕ). q.0) after.picks k p at)

  -- what holds of each that is placed, by the ranked segment that it is
  pub later_every : (P : Ranked → Type 0) (Q : Numbered → Type 0)
      → ((t : Ranked) (base : ℕ) → FitsThere (t, base) → P t → Q (located_at t base)) → Every P order
      → Every Q (map at_base after.picks)
  later_every P Q f all = every_map at_base Q after.picks (every_of _ after.picks
      (λ p i. f p.0 p.1 (every_in FitsThere after.picks p after.fit i) (every_in P order p.0 all (pick_in p i))))

  -- and sums
  pub later_total : (f : Numbered → ℕ) (h : Ranked → ℕ) → ((t : Ranked) (base : ℕ) → f (located_at t base) ≡ h t)
      → total f located ≡ total f earlier + total h order
  later_total f h same =
      omega (
        arith,
        ap (λ (es : List Numbered). total f es) after.are,
        total-append f earlier (map at_base after.picks),
        total_map f at_base after.picks,
        ap (λ (k : Ranked × ℕ → ℕ). total k after.picks) (λ i p. same p.0 p.1 i),
        total_map h (λ (p : Ranked × ℕ). p.0) after.picks,
        ap (λ (ts : List Ranked). total h ts) after.order_is,
      )

-- placing the first segments of an order, and then the others
abbrev pub Answer : Type 0
Answer = Result (List Numbered) Refusal

abbrev pub and_then : Answer → (List Numbered → Answer) → Answer
and_then (Ok es) f = f es
and_then (Err refusal) f = Err refusal

pub both_ok : (answer : Answer) (f : List Numbered → Answer) (z : List Numbered) → and_then answer f ≡ Ok z
    → (es : List Numbered) × (answer ≡ Ok es) × (f es ≡ Ok z)
both_ok (Ok es) f z h = (es, refl, h)
both_ok (Err refusal) f z h = absurd (cc h)

-- a segment has a base, or none
pub base_cases : (found : Option ℕ) → (found ≡ None) ⊎ ((base : ℕ) × (found ≡ Some base))
base_cases None = inl refl
base_cases (Some base) = inr (base, refl)

pub place_append : (g : GraphParts) (first later : List Ranked) (earlier : List Numbered)
    → place_after g earlier (first ++ later) ≡ and_then (place_after g earlier first) (λ es. place_after g es later)
place_append g [] later earlier = refl
place_append g (t ∷ more) later earlier =
    grind (arith, λ (base : ℕ). place_append g more later (earlier ++ located_at t base ∷ []))

-- Where overlaid DATA is placed in a run of open bytes: at its low end, or on an earlier segment in conflict.

-- a cell of internal RAM
abbrev pub ram : ℕ → Cell
ram at = record { space = Ram; at = at }

-- an extent covers no cell of these bytes of internal RAM
abbrev pub IsOut : ℕ → ℕ → Placed → Type 0
IsOut base size p = (at : ℕ) → 8 * base ≤ at → at < 8 * (base + size) → Covers (extent_at p) (ram at) → ⊥

in_ram : (base size : ℕ) (c : Cell) → Covers (extent_of Direct base size) c → (c ≡ ram c.at) × (8 * base ≤ c.at)
    × (c.at < 8 * (base + size))
in_ram base size c h =
    let from : 8 * base ≤ c.at = h.from in
    let below : c.at < 8 * base + 8 * size = h.below in
    (ap (λ (x : Space). record { space = x; at = c.at }) h.space, from, omega (arith, below))

pub out_apart : (kind : Kind) (base size : ℕ) (p : Placed) → kind ≡ Direct → IsOut base size p
    → IsApart (extent_of kind base size) p
out_apart kind base size p direct out = record {
  none = λ meet.
      let of = in_ram base size meet.0 (subst (λ k. Covers (extent_of k base size) meet.0) direct meet.2) in
      out meet.0.at of.1 of.2 (rw of.0 at meet.1);
}

pub apart_out : (kind : Kind) (base size : ℕ) (p : Placed) → kind ≡ Direct → IsApart (extent_of kind base size) p
    → IsOut base size p
apart_out kind base size p direct h at from below covers =
    h.none (ram at, covers, rw direct (record { space = refl; from = from; below = omega (arith, below) }))

-- Where a segment of DATA is seated: at the low end of the run, or on an earlier one.
pub data IsSeated (g : GraphParts) (done : List Numbered) (t : Ranked) (low base : ℕ) : Type 0 where
  AtLow : base ≡ low → IsSeated g done t low base
  OnTop : (e : Numbered) → In e done → in_conflict_with g t.number e ≡ true → 0 < e.placed.size
      → e.placed.base + e.placed.size ≡ base → IsSeated g done t low base

-- an open byte is one of which no extent covers a cell
pub open_out : (es : List Numbered) (byte : ℕ) → IsOpen es byte → Every (λ e. IsOut byte 1 e.placed) es
open_out es byte h = every_weaker _ _ es (λ e. apart_out Direct byte 1 e.placed refl) (all_every _ es h.apart)

pub out_open : (es : List Numbered) (byte : ℕ) → Every (λ e. IsOut byte 1 e.placed) es → IsOpen es byte
out_open es byte h = record {
  apart = every_all _ es (every_weaker _ _ es (λ e. out_apart Direct byte 1 e.placed refl) h);
}

-- a base of DATA is free where no extent in conflict covers a cell of the bytes
pub free_at : (g : GraphParts) (t : Ranked) (es : List Numbered) (base : ℕ) → t.segment.kind ≡ Direct
    → t.segment.reloc ≡ UnitType → base + t.segment.size ≤ 0x80
    → ((e : Numbered) → In e es → in_conflict_with g t.number e ≡ true → IsOut base t.segment.size e.placed)
    → IsFree (conflicting g t.number es) t.segment.kind t.segment.reloc t.segment.size base
free_at g t es base kind reloc ends out = record {
  fits = let fits : Fits Direct UnitType base t.segment.size = ends in rw (kind, reloc) fits;
  apart = every_all _ _ (every_of (IsApart (extent_of t.segment.kind base t.segment.size)) _ (λ p there.
      let image = in_map (λ (e : Numbered). e.placed) _ p there in
      let passes = in_filter (in_conflict_with g t.number) es image.0 image.1 in
      rw (← image.2) (out_apart t.segment.kind base t.segment.size image.0.placed kind
      (out image.0 passes.0 passes.1))));
}

module _ (g : GraphParts) (front done : List Numbered) (t : Ranked) (low high base : ℕ)
    (run : AreOneRun front low high) (against : Every (λ e. in_conflict_with g t.number e ≡ true) front)
    (data_only : Every (λ e. e.placed.kind ≡ Direct) done) (kind : t.segment.kind ≡ Direct)
    (reloc : t.segment.reloc ≡ UnitType) (some : 0 < t.segment.size)
    (is : base_for g (front ++ done) t ≡ Some base) where
  abbrev size : ℕ
  size = t.segment.size

  free : IsFreeFor g (front ++ done) t base
  free = base_is_free g (front ++ done) t base is

  least : (lower : ℕ) → lower < base
      → IsFree (conflicting g t.number (front ++ done)) t.segment.kind t.segment.reloc size lower → ⊥
  least =
      let others : List Placed = conflicting g t.number (front ++ done) in
      let of = rw is at (least_is_least others t.segment.kind t.segment.reloc size) in
      of.least

  -- it covers no cell of an extent in conflict
  apart : (e : Numbered) → In e (front ++ done) → in_conflict_with g t.number e ≡ true → IsOut base size e.placed
  apart e there conflict = apart_out t.segment.kind base size e.placed kind
      (every_in _ (front ++ done) e free.apart there
      conflict)

  front_apart : (e : Numbered) → In e front → IsOut base size e.placed
  front_apart e there = apart e (in_left front done e there) (every_in _ front e against there)

  ends : base + size ≤ 0x80
  ends = let fits = rw (kind, reloc) at free.fits in fits

  -- its bytes are open
  in_run : (byte : ℕ) → base ≤ byte → byte < base + size → (low ≤ byte) × (byte < high)
  in_run byte from below =
      (run.are byte (omega (arith, ends, below))).0
      (out_open front byte (every_of _ front
      (λ e there at p q. front_apart e there at (omega (arith, from, p)) (omega (arith, below, q)))))

  not_below : low ≤ base
  not_below = (in_run base (omega arith) (omega (arith, some))).0

  not_past : base + size ≤ high
  not_past = let last = in_run (base + size - 1) (omega (arith, some)) (omega (arith, some)) in
      omega (arith, last.1, some)

  -- one byte lower it is not free, so an earlier one of DATA ends there
  abbrev lower : ℕ
  lower = base - 1

  -- an extent placed before the overlaid segments would cover the byte below, which is open
  not_front : (e : Numbered) → low < base → In e front → IsOut lower size e.placed
  not_front e above there at from below covers = elim (cases_lt at (8 * base)) [
    | inl less ↦
        let clear = (run.are lower (omega (arith, above, ends))).1
        (omega (arith, above), omega (arith, above, not_past, some)) in
        every_in _ front e (open_out front lower clear) there at from (omega (arith, less, above)) covers
    | inr not_less ↦ front_apart e there at not_less (omega (arith, below)) covers
  ]

  abbrev ends_here : Numbered → Bool
  ends_here e = in_conflict_with g t.number e && (nat_lt 0 e.placed.size && nat_eq (e.placed.base + e.placed.size) base)

  not_done : (e : Numbered) → low < base → In e done → in_conflict_with g t.number e ≡ true → ends_here e ≡ false
      → IsOut lower size e.placed
  not_done e above there conflict fails at from below covered =
      let first : ℕ = e.placed.base in
      let len : ℕ = e.placed.size in
      let direct = every_in _ done e data_only there in
      let covers = in_ram first len (ram at) (subst (λ k. Covers (extent_of k first len) (ram at)) direct covered) in
      let outside : (at : ℕ) → 8 * base ≤ at → at < 8 * (base + size) → 8 * first ≤ at → at < 8 * (first + len) → ⊥ =
      λ at p q r u. apart e (in_right front done e there) conflict at p q
      (subst (λ k. Covers (extent_of k first len) (ram at)) (sym direct)
      (record { space = refl; from = r; below = omega (arith, u) })) in
      let ends_at : first + len ≡ base =
      grind (arith, outside (8 * first), outside (8 * base), covers.1, covers.2, from, below) in
      let some_len : 0 < len = omega (arith, covers.1, covers.2) in
      let is : ends_here e ≡ true = rw (conflict, lt-ltb 0 len some_len) (eq-eqb (first + len) base ends_at) in
      absurd (cc (fails, is))

  on_seat : IsSeated g done t low base
  on_seat = elim (cases_lt low base) [
    | inr same ↦ AtLow (omega (arith, same, not_below))
    | inl above ↦ elim (cases_Bool (list_any ends_here done)) [
      | inl is ↦
          let any = Any-from_list_any ends_here done is in
          let e : Numbered = any.1 in
          let end : Bool = nat_eq (e.placed.base + e.placed.size) base in
          let both = and_parts (in_conflict_with g t.number e) (nat_lt 0 e.placed.size && end) any.4 in
          let last = and_parts (nat_lt 0 e.placed.size) end both.1 in
          OnTop e (in_contains done e (any.0, any.2, any.3)) both.0 (ltb-true 0 e.placed.size last.0)
          (eqb-true (e.placed.base + e.placed.size) base last.1)
      | inr none ↦ absurd (least lower (omega (arith, above)) (free_at g t (front ++ done) lower kind reloc
          (omega (arith, ends)) (λ e there conflict. elim (in_cases front done e there) [
            | inl in_front ↦ not_front e above in_front
            | inr in_done ↦ not_done e above in_done conflict
                (every_in _ done e (all_fail ends_here done none) in_done)
          ])))
    ]
  ]

  -- it lies in the run, at its low end or on an earlier one
  pub seated : (low ≤ base) × (base + size ≤ high) × IsSeated g done t low base
  seated = (not_below, not_past, on_seat)

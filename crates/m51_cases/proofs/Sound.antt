-- A layout that passes the tests is sound.
use Rattle.std.proofs.Common.{◌≡◌, ◌≢◌, ◌⊎◌, inl, inr, ℕ, zero, suc, ◌+◌, ◌*◌, ◌<◌, ◌≤◌, Bool, true, false, not, ◌&&◌}
use Rattle.std.proofs.Common.{◌||◌, nat_eq, nat_le, nat_lt, Option, Some, None, List, [], ◌∷◌, length, get_or, refl}
use Rattle.std.proofs.Common.{sym, ap, subst, ◌∙◌, ⊎_elim, arith}
use Rattle.std.specs.Prelude.{slice_get, slice_index}
use Rattle.std.specs.List.{Contains}
use Rattle.std.proofs.lemmas.Bool.Decides.{eqb_tells, nat_tests}
use Rattle.std.proofs.lemmas.Option.{slice_get_within, slice_get-get_or}
use Rattle.std.proofs.lemmas.Bool.{and_parts, not-true, and_from, leb-true, eqb-true}
use Rattle.m51_cells.proofs.KindLaws.{code_is}
use Rattle.std.proofs.lemmas.Bool.{eq-eqb}
use Rattle.m51_monitor.proofs.Starting.{mark_is}
use Rattle.m51_cells.proofs.Small.{below_or_last, first_or_after, none_in_empty}
use Rattle.m51_cells.specs.declared.cell.Space.{Space}
use Rattle.m51_cells.specs.declared.cell.Space.TheVariants.{Ram, Xram, Code as CodeSpace}
use Rattle.m51_cells.specs.declared.extent.Extent.{Extent}
use Rattle.m51_cells.specs.declared.kind.Kind.{Kind}
use Rattle.m51_cells.specs.declared.kind.Kind.TheVariants.{Code, Xdata, Direct, Idata, Bits, Number}
use Rattle.m51_cells.specs.Extent.{Meet, extent_of}
use Rattle.m51_cells.specs.Kinds.{is_code}
use Rattle.m51_module.specs.declared.parts.LayoutParts.{LayoutParts}
use Rattle.m51_module.specs.declared.placed.Mark.{Mark}
use Rattle.m51_module.specs.declared.placed.Mark.TheVariants.{Bank, Reserve, Absolute, Plain, Overlaid}
use Rattle.m51_module.specs.declared.placed.Placed.{Placed}
use Rattle.m51_module.specs.Cells.{extent_at}
use Rattle.m51_module.specs.Conflict.{Same, Before, After, FirstUnderNone, SecondUnderNone, UnderTwo, FirstPlain}
use Rattle.m51_module.specs.Conflict.{SecondPlain, Owners}
use Rattle.m51_module.specs.Plan.{IsPlaced, IsOverlaid, IsCodeSegment, IsSegment, IsRootAt, owners_of, Owns}
use Rattle.m51_module.specs.Plan.{UnitLiesUnder, UnitsRelated, ExtentsConflict}
use Rattle.m51_module.specs.Sound.{IsSound, IsFit, IsInside, HasOwners}
use Rattle.m51_module.specs.Walks.{HasEdge, IsWalk, last_of, Reaches, has_edge}
use Rattle.m51_module.proofs.Owning.{pair_of_owner}
use Rattle.m51_module.proofs.Reach.{reach_edge}
use Rattle.m51_monitor.specs.Found.{is_absolute_mark, extent_meets}
use Rattle.m51_monitor.specs.Stores.{is_same_space, is_overlaid_at, is_overlaid_mark, is_segment}
use Rattle.m51_module.proofs.EdgeTests.{edge_tells}
use Rattle.m51_cases.proofs.SoundTests.{apart_at, are_apart, are_siblings, each_below, each_of, ends_inside, fits}
use Rattle.m51_cases.proofs.SoundTests.{has_owners, is_code_segment, is_leaf, is_no_late_code, is_number, is_owner}
use Rattle.m51_cases.proofs.SoundTests.{is_root_in_place, is_unit_in_order, leads_up, may_share, may_stand, one_or_two}

or_cases : (a b : Bool) → (a || b) ≡ true → (a ≡ true) ⊎ (b ≡ true)
or_cases true b e = inl refl
or_cases false b e = inr e

lt_is : (a b : ℕ) → nat_lt a b ≡ true → a < b
lt_is a b e = grind (arith, nat_tests)

refuted : (b : Bool) → not b ≡ true → b ≡ true → ⊥
refuted true e f = cc e
refuted false e f = cc f

below_each : (n : ℕ) (test : ℕ → Bool) → each_below n test ≡ true → (i : ℕ) → i < n → test i ≡ true
below_each zero test h i lt = absurd (omega (arith, lt))
below_each (suc n) test h i lt =
    let k = and_parts (test n) (each_below n test) h in
    ⊎_elim
    (λ (b : i < n). below_each n test k.1 i b)
    (λ (e : i ≡ n). subst (λ m. test m ≡ true) (sym e) k.0)
    (below_or_last i n (omega (arith, lt)))

of_each : {X : Type 0} (xs : List X) (test : X → Bool) → each_of xs test ≡ true → (x : X) → Contains xs x
    → test x ≡ true
of_each [] test h x k = absurd (none_in_empty x k)
of_each {X} (y ∷ ys) test h x k =
    let q = and_parts (test y) (each_of ys test) h in
    ⊎_elim
    (λ (e : y ≡ x). subst (λ (z : X). test z ≡ true) e q.0)
    (λ (m : Contains ys x). of_each ys test q.1 x m)
    (first_or_after y ys x k)

segment_is : (m : Mark) → is_segment m ≡ true → IsSegment m
segment_is Bank e = cc e
segment_is Reserve e = cc e
segment_is Absolute e = tt
segment_is Plain e = tt
segment_is Overlaid e = tt

is_a_segment : (m : Mark) → IsSegment m → is_segment m ≡ true
is_a_segment Bank h = absurd h
is_a_segment Reserve h = absurd h
is_a_segment Absolute h = refl
is_a_segment Plain h = refl
is_a_segment Overlaid h = refl

in_itself : (s : Space) → is_same_space s s ≡ true
in_itself Ram = refl
in_itself Xram = refl
in_itself CodeSpace = refl

no_meet : (e f : Extent) → are_apart e f ≡ true → Meet e f → ⊥
no_meet e f h (c, one, two) = ⊎_elim
    (λ (k : not (is_same_space e.space f.space) ≡ true). refuted (is_same_space e.space f.space) k
    (subst (λ (s : Space). is_same_space e.space s ≡ true) (sym one.space ∙ two.space) (in_itself e.space)))
    (λ (k : (nat_le (e.first + e.len) f.first || nat_le (f.first + f.len) e.first) ≡ true). ⊎_elim
    (λ (q : nat_le (e.first + e.len) f.first ≡ true). let le = leb-true (e.first + e.len) f.first q in
    omega (arith, le, one.below, two.from))
    (λ (q : nat_le (f.first + f.len) e.first ≡ true). let le = leb-true (f.first + f.len) e.first q in
    omega (arith, le, two.below, one.from))
    (or_cases (nat_le (e.first + e.len) f.first) (nat_le (f.first + f.len) e.first) k))
    (or_cases (not (is_same_space e.space f.space))
    (nat_le (e.first + e.len) f.first || nat_le (f.first + f.len) e.first) h)

module _ (p : Placed) (some : 0 < p.size) where
  inside_of : (k : Kind) → p.kind ≡ k → IsInside (extent_of k p.base p.size) → IsInside (extent_at p)
  inside_of k e h = subst (λ (k : Kind). IsInside (extent_of k p.base p.size)) (sym e) h

  fit_by : (k : Kind) → p.kind ≡ k → ends_inside k p.base p.size p.mark ≡ true → IsFit p
  fit_by Code e h =
      let q = and_parts (nat_le (p.base + p.size) 65536) (not (is_overlaid_mark p.mark)) h in
      let end = leb-true (p.base + p.size) 65536 q.0 in
      record {
        kind = λ n. cc (e, n);
        inside = inside_of Code e (λ c m. omega (arith, m.below, end));
        absolute = λ _. some;
        code = λ _ o. refuted (is_overlaid_mark p.mark) q.1 (ap is_overlaid_mark o);
      }
  fit_by Direct e h =
      let end = leb-true (8 * p.base + 8 * p.size) 2048 h in
      record {
        kind = λ n. cc (e, n);
        inside = inside_of Direct e (λ c m. omega (arith, m.below, end));
        absolute = λ _. some;
        code = λ n. absurd (cc (e, n));
      }
  fit_by Bits e h =
      let end = leb-true (256 + p.base + p.size) 2048 h in
      record {
        kind = λ n. cc (e, n);
        inside = inside_of Bits e (λ c m. omega (arith, m.below, end));
        absolute = λ _. some;
        code = λ n. absurd (cc (e, n));
      }
  fit_by Xdata e h = cc h
  fit_by Idata e h = cc h
  fit_by Number e h = cc h

fit_of : (p : Placed) → fits p ≡ true → IsFit p
fit_of p h = let k = and_parts (nat_lt 0 p.size) (ends_inside p.kind p.base p.size p.mark) h in
    fit_by p (lt_is 0 p.size k.0) p.kind refl k.1

code_of : (p : Placed) → is_code_segment p ≡ true → IsCodeSegment p
code_of p h = let k = and_parts (is_code p.kind) (is_segment p.mark) h in
    record { kind = code_is p.kind k.0; segment = segment_is p.mark k.1 }

owners_are : (us : List ℕ) → one_or_two us ≡ true → HasOwners us
owners_are [] h = cc h
owners_are (own ∷ []) h =
    record {
      own = own;
      others = [];
      are = refl;
      rising = λ i j d less below. absurd (omega (arith, below));
      different = λ k. none_in_empty own k;
    }
owners_are (own ∷ other ∷ []) h = record {
  own = own;
  others = other ∷ [];
  are = refl;
  rising = λ i j d less below. absurd (omega (arith, less, below));
  different = λ k. ⊎_elim
      (λ (e : other ≡ own). refuted (nat_eq other own) h (eq-eqb other own e))
      (λ (m : Contains [] own). none_in_empty own m)
      (first_or_after other [] own k);
}
owners_are (own ∷ other ∷ third ∷ more) h = cc h

-- the unit of number 0 is the root at the reset's vector
pub reset_root : (l : LayoutParts) (p : Placed) → slice_get l.units 0 ≡ Some 0 → IsPlaced l 0 p → p.kind ≡ Code
    → p.mark ≡ Absolute → p.base ≡ 0 → IsRootAt l 0 0
reset_root l p unit placed kind mark base = record {
  vector_is = (0, omega arith, refl);
  is = p;
  unit_is = record { segment = 0; unit_is = unit; placed = placed };
  code = kind;
  absolute = mark;
  base = base;
}

module _ (l : LayoutParts) (vectors : List ℕ) (root : IsRootAt l 0 0)
    (few_units : length l.units ≤ 1000) (few_placed : length l.placed < 65536)
    (fitting : each_below (length l.placed) (λ s. extent_meets fits (slice_get l.placed s)) ≡ true)
    (ordered : each_below (length l.units) (is_unit_in_order l) ≡ true)
    (none_late : each_below (length l.placed) (is_no_late_code l) ≡ true)
    (in_place : each_below (length l.placed) (is_root_in_place vectors l) ≡ true)
    (upwards : each_of l.edges (leads_up vectors l) ≡ true)
    (all_owners : each_of l.owners (is_owner l) ≡ true)
    (all_owned : each_below (length l.placed) (has_owners l) ≡ true)
    (all_stand : each_below (length l.placed) (λ s. each_below (length l.placed) (may_stand l s)) ≡ true) where
  vector : ℕ → ℕ
  vector u = slice_index vectors u

  inside : (s : ℕ) (p : Placed) → IsPlaced l s p → s < length l.placed
  inside s p h = slice_get_within l.placed s p h

  fit : (s : ℕ) (p : Placed) → IsPlaced l s p → IsFit p
  fit s p h = fit_of p (subst (λ (o : Option Placed). extent_meets fits o ≡ true) h
      (below_each (length l.placed) (λ s. extent_meets fits (slice_get l.placed s)) fitting s (inside s p h)))

  in_order : (u s : ℕ) → slice_get l.units u ≡ Some s → (s ≡ u)
      × (extent_meets is_code_segment (slice_get l.placed u) ≡ true)
  in_order u s h =
      let k = and_parts (is_number (slice_get l.units u) u) (extent_meets is_code_segment (slice_get l.placed u))
      (below_each (length l.units) (is_unit_in_order l) ordered u (slice_get_within l.units u s h)) in
      (eqb-true s u (subst (λ (o : Option ℕ). is_number o u ≡ true) h k.0), k.1)

  code_at : (s : ℕ) (o : Option Placed) → slice_get l.placed s ≡ o → extent_meets is_code_segment o ≡ true
      → (p : Placed) × IsPlaced l s p × IsCodeSegment p
  code_at s None e h = cc h
  code_at s (Some p) e h = (p, e, code_of p h)

  is_code_at : (u s : ℕ) → slice_get l.units u ≡ Some s → (p : Placed) × IsPlaced l s p × IsCodeSegment p
  is_code_at u s h =
      let k = in_order u s h in
      code_at s (slice_get l.placed s) refl
      (subst (λ n. extent_meets is_code_segment (slice_get l.placed n) ≡ true) (sym k.0) k.1)

  is_unit : (s : ℕ) (p : Placed) → IsPlaced l s p → IsCodeSegment p → Contains l.units s
  is_unit s p h code = ⊎_elim
      (λ (e : nat_lt s (length l.units) ≡ true). let lt = lt_is s (length l.units) e in
      (s, lt, (in_order s (get_or l.units s s) (slice_get-get_or l.units s s lt)).0))
      (λ (e : not (extent_meets is_code_segment (slice_get l.placed s)) ≡ true).
      absurd (refuted (extent_meets is_code_segment (slice_get l.placed s)) e
      (subst (λ (o : Option Placed). extent_meets is_code_segment o ≡ true) (sym h)
      (and_from (is_code p.kind) (is_segment p.mark) (ap is_code code.kind) (is_a_segment p.mark code.segment)))))
      (or_cases (nat_lt s (length l.units)) (not (extent_meets is_code_segment (slice_get l.placed s)))
      (below_each (length l.placed) (is_no_late_code l) none_late s (inside s p h)))

  edge_up : (u v : ℕ) → HasEdge l.edges u v → (u < v) × (v < length l.units) × (vector u ≡ vector v)
  unfolding vector
  edge_up u v h =
      let k = and_parts (nat_lt u v)
      (nat_lt v (length l.units) && nat_eq (slice_index vectors u) (slice_index vectors v))
      (of_each l.edges (leads_up vectors l) upwards (u, v) h) in
      let q = and_parts (nat_lt v (length l.units)) (nat_eq (slice_index vectors u) (slice_index vectors v)) k.1 in
      (lt_is u v k.0, lt_is v (length l.units) q.0, eqb-true (slice_index vectors u) (slice_index vectors v) q.1)

  walk_up : (u next : ℕ) (more : List ℕ) → IsWalk l.edges u (next ∷ more)
      → (u < last_of next more) × (vector u ≡ vector (last_of next more))
  walk_up u next [] w = let k = edge_up u next w.0 in (k.0, k.2)
  walk_up u next (third ∷ more) w =
      let k = edge_up u next w.0 in
      let q = walk_up next third more w.1 in
      (omega (arith, k.0, q.0), k.2 ∙ q.1)

  no_cycle : (u : ℕ) → Reaches l.edges u u → ⊥
  no_cycle u r = let k : u < u = subst (λ n. u < n) r.ends (walk_up u r.next r.more r.walk).0 in omega (arith, k)

  root_vector : (x r : ℕ) → IsRootAt l x r → x ≡ vector r
  unfolding vector
  root_vector x r h =
      let s = h.unit_is.segment in
      let same = (in_order r s h.unit_is.unit_is).0 in
      ⊎_elim
      (λ (e : not (extent_meets (λ p. is_absolute_mark p.mark) (slice_get l.placed s)) ≡ true).
      absurd (refuted (extent_meets (λ p. is_absolute_mark p.mark) (slice_get l.placed s)) e
      (subst (λ (o : Option Placed). extent_meets (λ p. is_absolute_mark p.mark) o ≡ true) (sym h.unit_is.placed)
      (ap is_absolute_mark h.absolute))))
      (λ (e : extent_meets (λ p. nat_eq p.base (slice_index vectors s)) (slice_get l.placed s) ≡ true).
      sym h.base ∙ eqb-true h.is.base (slice_index vectors s)
      (subst (λ (o : Option Placed). extent_meets (λ p. nat_eq p.base (slice_index vectors s)) o ≡ true)
      h.unit_is.placed
      e) ∙ ap (slice_index vectors) same)
      (or_cases (not (extent_meets (λ p. is_absolute_mark p.mark) (slice_get l.placed s)))
      (extent_meets (λ p. nat_eq p.base (slice_index vectors s)) (slice_get l.placed s))
      (below_each (length l.placed) (is_root_in_place vectors l) in_place s (inside s h.is h.unit_is.placed)))

  under_vector : (x u : ℕ) → UnitLiesUnder l x u → x ≡ vector u
  under_vector x u h = ⊎_elim
      (λ (e : h.root ≡ u). root_vector x h.root h.is_root ∙ ap vector e)
      (λ (r : Reaches l.edges h.root u). root_vector x h.root h.is_root ∙ (walk_up h.root r.next r.more r.walk).1
      ∙ ap vector r.ends)
      h.leads

  overlaid_at : (s : ℕ) (o : Option Placed) → slice_get l.placed s ≡ o → is_overlaid_at o ≡ true → IsOverlaid l s
  overlaid_at s None e h = cc h
  overlaid_at s (Some p) e h = (p, e, mark_is p.mark h)

  owned : (u s : ℕ) → Owns l u s → (u < length l.units) × IsOverlaid l s
  owned u s h =
      let k = and_parts (nat_lt u (length l.units)) (is_overlaid_at (slice_get l.placed s))
      (of_each l.owners (is_owner l) all_owners (s, u) (pair_of_owner l.owners s u h)) in
      (lt_is u (length l.units) k.0, overlaid_at s (slice_get l.placed s) refl k.1)

  owners : (s : ℕ) → IsOverlaid l s → HasOwners (owners_of l.owners s)
  owners s (p, at, mark) = ⊎_elim
      (λ (e : not (is_overlaid_at (slice_get l.placed s)) ≡ true). absurd
      (refuted (is_overlaid_at (slice_get l.placed s)) e
      (subst (λ (o : Option Placed). is_overlaid_at o ≡ true) (sym at) (ap is_overlaid_mark mark))))
      (λ (e : one_or_two (owners_of l.owners s) ≡ true). owners_are (owners_of l.owners s) e)
      (or_cases (not (is_overlaid_at (slice_get l.placed s))) (one_or_two (owners_of l.owners s))
      (below_each (length l.placed) (has_owners l) all_owned s (inside s p at)))

  no_reach : (u v : ℕ) → is_leaf l u ≡ true → Reaches l.edges u v → ⊥
  no_reach u v leaf r =
      let k = and_parts (has_edge l.edges 0 u) (each_of l.edges (λ edge. not (nat_eq edge.0 u))) leaf in
      refuted (nat_eq u u) (of_each l.edges (λ edge. not (nat_eq edge.0 u)) k.1 (u, r.next) r.walk.0) (eq-eqb u u refl)

  called : (u : ℕ) → is_leaf l u ≡ true → HasEdge l.edges 0 u
  called u leaf =
      let k = and_parts (has_edge l.edges 0 u) (each_of l.edges (λ edge. not (nat_eq edge.0 u))) leaf in
      ⊎_elim
      (λ (t : (has_edge l.edges 0 u ≡ true) × HasEdge l.edges 0 u). t.1)
      (λ (t : (has_edge l.edges 0 u ≡ false) × (HasEdge l.edges 0 u → ⊥)). cc (k.0, t.0))
      (edge_tells l.edges 0 u)

  under_first : (u : ℕ) → is_leaf l u ≡ true → UnitLiesUnder l 0 u
  under_first u leaf = record { root = 0; is_root = root; leads = inr (reach_edge l.edges 0 u (called u leaf)) }

  unrelated : (u v : ℕ) → are_siblings l u v ≡ true → UnitsRelated l u v → ⊥
  unrelated u v h related =
      let k = and_parts (not (nat_eq u v)) (is_leaf l u && is_leaf l v) h in
      let q = and_parts (is_leaf l u) (is_leaf l v) k.1 in
      elim related [
        | Same e ↦ refuted (nat_eq u v) k.0 (eq-eqb u v e)
        | Before r ↦ no_reach u v q.0 r
        | After r ↦ no_reach v u q.1 r
        | FirstUnderNone none ↦ none 0 (under_first u q.0)
        | SecondUnderNone none ↦ none 0 (under_first v q.1)
        | UnderTwo x y two first second ↦ two
            (under_vector x u first ∙ sym (edge_up 0 u (called u q.0)).2 ∙ (edge_up 0 v (called v q.1)).2
            ∙ sym (under_vector y v second))
      ]

  no_conflict : (s t : ℕ) → may_share l s t ≡ true → ExtentsConflict l s t → ⊥
  no_conflict s t h conflict =
      let k = and_parts (is_overlaid_at (slice_get l.placed s) && is_overlaid_at (slice_get l.placed t))
      (each_of (owners_of l.owners s) (λ u. each_of (owners_of l.owners t) (λ v. are_siblings l u v))) h in
      let q = and_parts (is_overlaid_at (slice_get l.placed s)) (is_overlaid_at (slice_get l.placed t)) k.0 in
      elim conflict [
        | FirstPlain plain ↦ plain (overlaid_at s (slice_get l.placed s) refl q.0)
        | SecondPlain plain ↦ plain (overlaid_at t (slice_get l.placed t) refl q.1)
        | Owners u v owns_s owns_t related ↦ unrelated u v
            (of_each (owners_of l.owners t) (λ v. are_siblings l u v)
            (of_each (owners_of l.owners s) (λ u. each_of (owners_of l.owners t) (λ v. are_siblings l u v)) k.1 u
            owns_s) v owns_t) related
      ]

  apart : (s t : ℕ) (p q : Placed) → IsPlaced l s p → IsPlaced l t q → s ≢ t → ExtentsConflict l s t
      → Meet (extent_at p) (extent_at q) → ⊥
  apart s t p q at_s at_t differ conflict meet =
      let both_of = below_each (length l.placed) (may_stand l s)
      (below_each (length l.placed) (λ s. each_below (length l.placed) (may_stand l s)) all_stand s
      (inside s p at_s)) t (inside t q at_t) in
      ⊎_elim
      (λ (e : nat_eq s t ≡ true). differ (eqb-true s t e))
      (λ (e : (apart_at (slice_get l.placed s) (slice_get l.placed t) || may_share l s t) ≡ true). ⊎_elim
      (λ (f : apart_at (slice_get l.placed s) (slice_get l.placed t) ≡ true).
      no_meet (extent_at p) (extent_at q)
      (subst (λ (o : Option Placed). apart_at (Some p) o ≡ true) at_t
      (subst (λ (o : Option Placed). apart_at o (slice_get l.placed t) ≡ true) at_s f)) meet)
      (λ (f : may_share l s t ≡ true). no_conflict s t f conflict)
      (or_cases (apart_at (slice_get l.placed s) (slice_get l.placed t)) (may_share l s t) e))
      (or_cases (nat_eq s t) (apart_at (slice_get l.placed s) (slice_get l.placed t) || may_share l s t) both_of)

  pub sound_by_tests : IsSound l
  sound_by_tests = record {
    fit = fit;
    is_code = is_code_at;
    is_unit = is_unit;
    once = λ u v s first second. sym (in_order u s first).0 ∙ (in_order v s second).0;
    few_units = few_units;
    few_placed = few_placed;
    edges = λ u v h. let k = edge_up u v h in (omega (arith, k.0, k.1), k.1);
    no_cycle = no_cycle;
    owned = owned;
    owners = owners;
    one_root = λ s u x y h first second. under_vector x u first ∙ sym (under_vector y u second);
    apart = apart;
  }

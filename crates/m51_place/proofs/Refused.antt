-- L12 names an overlaid segment exactly if the run has fewer bytes than the weight.
use Rattle.m51_place.proofs
use proofs.Common.{JoinedSegment, ModuleParts, is_absolute, pairs_between, placing_from, shared_after, shared_extents}
use proofs.Common.{GraphParts, Numbered, Pairs, false≢true, located_at, located_of, place_after, segments_of, slice_get}
use proofs.Common.{IsGraph, List, Option, Ranked, Refusal, Segment, base_for, cases_lt, is_some, length, own_at, unless}
use proofs.Common.{Err, L12, None, Some, arith, false, inl, inr, refl, sym, true, ℕ, ◌++◌, ◌+◌, ◌-◌, ◌∙◌, ◌∷◌, ◌≡◌, ◌≤◌}
use proofs.Common.{In, Ok, [], ap}
use Rattle.m51_cells.proofs.Members.{Every, every_in, in_filter, in_left, in_right, map_at}
use Rattle.m51_resolve.proofs.FirstSight.{AreApart, firsts_apart}
use Rattle.m51_resolve.specs.Joining.{all_segments, are_parts, firsts, joined_of, title_of}
use Rattle.std.proofs.lemmas.Slice.Eq.{bytes_eq-Decides}
use Rattle.m51_place.specs.Overlay.{OverlayRefused, OverlaysData, PlacesOverlaid, RefusesOverlaid, before_overlaid}
use Rattle.m51_place.specs.Overlay.{ExceedsRun, IsWeightOf, LeavesRun, OverlayFits, PlacesBefore, overlaid_in}
use proofs.Conflicting.{own_is, own_read}
use proofs.Free.{Answer, all_fail, and_then, base_cases, place_append}
use proofs.Ordered.{AreParts, IsPlain, lone_before, order_parts}
use proofs.Piled.{Piles}
use proofs.Ranks.{IsRankedOf, Program, order, program, ranked, segments}
use proofs.Tight.{Setting, answer as settled, holds, scene, setting_of, unrooted, weighs}
use proofs.Whole.{fixed, number_of}

-- L12 comes for no overlaid segment where the run has as many bytes as the weight.

pub placed : (t : Setting) → t.low + t.weight ≤ t.high → (found : Answer)
    → place_after t.c.g t.finds.extents (overlaid_in (order t.c)) ≡ found → Piles (scene t) (unrooted t) found
    → PlacesOverlaid t.c.g t.finds.extents (order t.c)
placed t room (Ok located) is piles = record { located = located; is = is }
placed t room (Err refusal) is piles = absurd (omega (arith, piles, room, weighs t))

pub overlay_fits : OverlayFits
overlay_fits modules controls g low high weight valid kept is graph_is shares data_only run h room =
    let c : Program = program modules controls g valid kept graph_is in
    let t : Setting = setting_of c is low high weight shares data_only run h in
    placed t room _ refl (settled t)

-- Relocatable joined segments of one title are one.

-- no two of the segments that are seen first are parts of one
apart_pairs : (xs : List Segment) → AreApart xs → Pairs (λ s t. are_parts s t ≡ false) xs
apart_pairs [] h = tt
apart_pairs (s ∷ xs) h = (all_fail (are_parts s) xs h.0, apart_pairs xs h.1)

-- relocatable segments of one title are parts of one
alike : (s t : Segment) → is_absolute s.reloc ≡ false → is_absolute t.reloc ≡ false → title_of s ≡ title_of t
    → are_parts s t ≡ true
alike s t a b same =
    let name : s.name ≡ t.name = rw (a, b) at same in rw (a, b, (bytes_eq-Decides s.name t.name).1 name)

pub one_title : (modules : List ModuleParts) (n m : ℕ) (j k : JoinedSegment) → slice_get (segments_of modules) n
    ≡ Some j → slice_get (segments_of modules) m ≡ Some k
    → is_absolute j.reloc ≡ false → is_absolute k.reloc ≡ false → j.title ≡ k.title → n ≡ m
one_title modules n m j k at at' a b same =
    let all : List Segment = all_segments modules in
    let f = map_at (joined_of all) (firsts all) n j at in
    let f' = map_at (joined_of all) (firsts all) m k at' in
    let reloc : is_absolute f.0.reloc ≡ false = rw (← f.2) at a in
    let reloc' : is_absolute f'.0.reloc ≡ false = rw (← f'.2) at b in
    let title : title_of f.0 ≡ title_of f'.0 = rw (← f.2, ← f'.2) at same in
    let apart = apart_pairs (firsts all) (firsts_apart [] all) in
    elim (pairs_between _ (firsts all) n m f.0 f'.0 apart f.1 f'.1) [
      | inl one ↦ one
      | inr rest ↦ absurd (elim rest [
        | inl is ↦ cc (is, alike f.0 f'.0 reloc reloc' title)
        | inr is ↦ cc (is, alike f'.0 f.0 reloc' reloc (sym title))
      ])
    ]

-- L12 names an overlaid segment exactly if the run has fewer bytes than the weight.

-- the refusal of placing names one of the order
abbrev Names : List Ranked → Refusal → Type 0
Names order refusal = (t : Ranked) × In t order × (refusal ≡ L12 t.segment.title)

named_in : (g : GraphParts) (order : List Ranked) (earlier : List Numbered) (refusal : Refusal)
    → place_after g earlier order ≡ Err refusal → Names order refusal
named_in g [] earlier refusal h = absurd (cc h)
named_in g (t ∷ more) earlier refusal h = elim (base_cases (base_for g earlier t)) [
  | inl none ↦ let same : L12 t.segment.title ≡ refusal = cc (rw none at h) in (t, inl refl, sym same)
  | inr some ↦
      let rest = named_in g more (earlier ++ located_at t some.0 ∷ []) refusal (rw (some.1) at h) in
      (rest.0, inr rest.1, rest.2)
]

-- L9 is not L12
not_shared : (fixed earlier : List Numbered) (title : List ℕ) → shared_after earlier fixed ≡ Some (L12 title) → ⊥
not_shared [] earlier title h = cc h
not_shared (e ∷ more) earlier title h = grind (arith, not_shared more (earlier ++ e ∷ []) title, h)

refused_by : (count : ℕ) (g : GraphParts) (answer : Answer) (refusal : Refusal) → placing_from g count answer
    ≡ Err refusal → answer ≡ Err refusal
refused_by count g answer refusal k = grind arith

module _ (c : Program) (is : IsGraph c.g) (low high weight : ℕ) (data_only : OverlaysData (segments c) c.g)
    (leaves : LeavesRun c.g (fixed c) (order c) low high) (h : IsWeightOf (segments c) c.g weight) where
  parts : AreParts c.g (order c)
  parts = order_parts c.g c.controls (segments c) data_only

  -- placing the whole order, by its parts
  abbrev first : Answer
  first = place_after c.g (fixed c) (before_overlaid (order c))

  abbrev later : List Numbered → Answer
  later es = and_then (place_after c.g es (overlaid_in (order c))) (λ fs. place_after c.g fs parts.rest)

  placing : place_after c.g (fixed c) (order c) ≡ and_then first later
  placing =
      let split = place_append c.g (before_overlaid (order c)) (overlaid_in (order c) ++ parts.rest) (fixed c) in
      ap (place_after c.g (fixed c)) parts.are ∙ split
      ∙ ap (and_then first) (λ i es. place_append c.g (overlaid_in (order c)) parts.rest es i)

  -- a plain segment of the order does not have the name of an overlaid one
  not_plain : (r : RefusesOverlaid c.modules c.controls c.g) (t : Ranked) → In t (order c) → IsPlain c.g t
      → L12 r.segment.title ≡ L12 t.segment.title → ⊥
  not_plain r t there plain same =
      let of = every_in (IsRankedOf c.g c.controls (segments c)) (order c) t (ranked c) there in
      let told = data_only.data_only r.number r.unit r.segment r.own r.is in
      let one =
      one_title c.modules r.number t.number r.segment t.segment r.is of.segment
      (ap is_absolute told.1) of.relocatable (cc same) in
      absurd (cc (own_read c.g r.number r.unit r.own, ap (own_at c.g) one, plain))

  in_order : (t : Ranked) → In t (before_overlaid (order c) ++ (overlaid_in (order c) ++ parts.rest)) → In t (order c)
  in_order t there = rw parts.are there

  abbrev setting : shared_extents (fixed c) ≡ None → PlacesBefore c.g (fixed c) (order c) → Setting
  setting shares before = setting_of c is low high weight shares data_only
      (record { extents = before.extents; placed = before.is; run = leaves before.extents before.is }) h

  module _ (r : RefusesOverlaid c.modules c.controls c.g) where
    abbrev refusal : Refusal
    refusal = L12 r.segment.title

    answer : located_of c.modules c.controls c.g ≡ Err refusal
    answer = refused_by (length (segments c)) c.g (located_of c.modules c.controls c.g) refusal r.refused

    -- fixed extents share no cell
    shares_by : (o : Option Refusal) → shared_extents (fixed c) ≡ o → unless o (place_after c.g (fixed c) (order c))
        ≡ Err refusal → o ≡ None
    shares_by o is k = grind (arith, is, not_shared (fixed c) [] r.segment.title)

    shares : shared_extents (fixed c) ≡ None
    shares = shares_by (shared_extents (fixed c)) refl answer

    -- the placing stops after what comes before
    stopped : and_then first later ≡ Err refusal
    stopped = rw (shares, placing) at answer

    plain_only : (ts : List Ranked) → Every (IsPlain c.g) ts → ((t : Ranked) → In t ts → In t (order c))
        → Names ts refusal → ⊥
    plain_only ts plain there named =
        not_plain r named.0 (there named.0 named.1) (every_in (IsPlain c.g) ts named.0 plain named.1) named.2

    before_by : (found : Answer) → first ≡ found → and_then found later ≡ Err refusal
        → PlacesBefore c.g (fixed c) (order c)
    before_by (Ok extents) is k = record { extents = extents; is = is }
    before_by (Err other) is k =
        let same : other ≡ refusal = cc k in
        absurd (plain_only (before_overlaid (order c)) (lone_before c.g c.controls (segments c) (order c) (ranked c))
        (λ t there. in_order t (in_left (before_overlaid (order c)) (overlaid_in (order c) ++ parts.rest) t there))
        (named_in c.g (before_overlaid (order c)) (fixed c) refusal (rw same at is)))

    before : PlacesBefore c.g (fixed c) (order c)
    before = before_by first refl stopped

    exceeds : ExceedsRun c.g (fixed c) (order c) low high weight
    exceeds = record {
      shares = shares;
      before = before;
      exceeds = elim (cases_lt (high - low) weight) [
        | inl less ↦ less
        | inr not_less ↦
            let t : Setting = setting shares before in
            let fit = placed t (omega (arith, not_less, t.finds.run.order)) _ refl (settled t) in
            let last = rw fit.is at (rw before.is at stopped) in
            absurd (plain_only parts.rest parts.after
            (λ u there. in_order u (in_right (before_overlaid (order c)) (overlaid_in (order c) ++ parts.rest) u
            (in_right (overlaid_in (order c)) parts.rest u there))) (named_in c.g parts.rest fit.located refusal last))
      ];
    }

  -- where it does, an overlaid segment has no base
  refuses_by : (e : ExceedsRun c.g (fixed c) (order c) low high weight) (found : Answer)
      → place_after c.g e.before.extents (overlaid_in (order c)) ≡ found → RefusesOverlaid c.modules c.controls c.g
  refuses_by e (Ok located) is =
      let t : Setting = setting e.shares e.before in absurd (omega
      (arith, holds t located is, e.exceeds, t.finds.run.order))
  refuses_by e (Err refusal) is =
      let named = named_in c.g (overlaid_in (order c)) e.before.extents refusal is in
      let there = in_filter (λ (t : Ranked). is_some t.own) (order c) named.0 named.1 in
      let of = every_in (IsRankedOf c.g c.controls (segments c)) (order c) named.0 (ranked c) there.0 in
      let unit = number_of named.0.own (λ none. false≢true (rw none at there.1)) in
      let stopped : place_after c.g (fixed c) (order c) ≡ Err refusal = rw (placing, e.before.is, is) in
      record {
        number = named.0.number;
        unit = unit.0;
        segment = named.0.segment;
        is = of.segment;
        own = own_is c.g named.0.number unit.0 (sym of.own ∙ unit.1);
        refused = rw (e.shares, stopped) (ap (λ (x : Refusal). Err x) named.2);
      }

pub overlay_is_refused : OverlayRefused
overlay_is_refused modules controls g low high weight valid kept is graph_is data_only leaves h =
    let c : Program = program modules controls g valid kept graph_is in (
      exceeds c is low high weight data_only leaves h,
      λ e. refuses_by c is low high weight data_only leaves h e _ refl,
    )

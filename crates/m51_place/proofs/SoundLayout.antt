-- The layout of what was placed is sound, and each vector has at most one root.
use Rattle.m51_place.proofs
use proofs.Common.{HaveSameUnits, SegmentsConflict, absolutes_from, parts_of_layout, shared_extents, slice_get_within}
use proofs.Common.{FirstPlain, JoinedSegment, code_segments, conflict_back, none_in_empty, option_map_or, pairs_between}
use proofs.Common.{LayoutParts, SecondPlain, inl, layout_graph, numbers_rise, placing_with, related_there, with_numbers}
use proofs.Common.{GraphParts, append-nil, is_absolute, joined_base, list_any_at, owner_pairs, reserves_of, under_there}
use proofs.Common.{Control, IsSegment, and_parts, at_number, length-map, pairs_with, reach_edge, roots_from, units_from}
use proofs.Common.{Contains, In, code_cell, edge_test, extent_at, filter_in, number_at, owners_of, same_Some, slice_get}
use proofs.Common.{IsGraph, IsRootAt, IsSound, Numbered, Overlaid, [], absolute, banks_of, cases_eq, list_any, units_of}
use proofs.Common.{Covers, Option, Owners, Placed, code_is, eq-eqb, filter, get_or, is_code, is_root, length, vectors}
use proofs.Common.{Bool, Code, List, Meet, None, Some, arith, cond, false, nat_eq, ne_eqb, own_at, refl, subst, true, ℕ}
use proofs.Common.{ap, inr, map, suc, sym, zero, ◌++◌, ◌+◌, ◌<◌, ◌∙◌, ◌∷◌, ◌≡◌, ◌≢◌, ◌≤◌}
use Rattle.m51_cells.proofs.Members.{contains_in, in_contains, in_filter, map_got, pairs_all, pairs_filter, pairs_range}
use Rattle.m51_cells.proofs.Members.{every_in, got_in, in_map, in_right, map_at, map_in, pairs_in}
use Rattle.m51_module.specs.Plan.{ExtentsConflict, IsCodeSegment, IsOverlaid, IsPlaced, Owns}
use Rattle.m51_module.specs.Rising.{Rises}
use Rattle.std.proofs.lemmas.List.FromFn.{get_or-map-range_with_len, length-map-range_with_len}
use Rattle.m51_place.specs.Conflicts.{callers_of, in_conflict, is_argument_at, owners_at}
use Rattle.m51_place.specs.Placement.{joined_index, owners_of_extent}
use Rattle.m51_place.specs.Places.{ArePlaces, IsPlacedAs, IsSegmentAt}
use proofs.Conflicting.{caller_edge, conflict_tells, own_read, owner_owns}
use proofs.Free.{KeepApart}
use proofs.Ranks.{IsOf, Program, absolute_at, absolutes_are, is_fixed, joined_at, segments, shape}
use proofs.Whole.{IsSegmentOf, IsSpot, IsWhole, bare_absolute, fixed, fixed_pairs, found, only, overlaid_at, segment_at}
use Rattle.m51_graph.specs.Graph as graph

-- Units, the segments that they are, and roots.

abbrev is_unit : ℕ × JoinedSegment → Bool
is_unit p = is_code p.1.kind

abbrev pick_number : ℕ × JoinedSegment → ℕ
pick_number p = p.0

abbrev pick_segment : ℕ × JoinedSegment → JoinedSegment
pick_segment p = p.1

abbrev is_rooted : ℕ × JoinedSegment → Bool
is_rooted p = is_root p.1

abbrev root_pair : ℕ × JoinedSegment → ℕ × ℕ
root_pair p = (p.1.base, p.0)

units_are : (number : ℕ) (rest : List JoinedSegment)
    → units_from number rest ≡ map pick_number (filter is_unit (with_numbers number rest))
units_are number [] = refl
units_are number (j ∷ more) = grind (arith, units_are (number + 1) more)

codes_are : (number : ℕ) (rest : List JoinedSegment)
    → code_segments rest ≡ map pick_segment (filter is_unit (with_numbers number rest))
codes_are number [] = refl
codes_are number (j ∷ more) = grind (arith, codes_are (number + 1) more)

roots_are : (number : ℕ) (rest : List JoinedSegment)
    → roots_from number rest ≡ map root_pair (filter is_rooted (with_numbers number rest))
roots_are number [] = refl
roots_are number (j ∷ more) = grind (arith, roots_are (number + 1) more)

module _ (segments : List JoinedSegment) where
  -- the segments that are units, each with its number
  abbrev picks : List (ℕ × JoinedSegment)
  picks = filter is_unit (with_numbers 0 segments)

  -- the unit of that number is this segment
  pub record UnitAt (unit n : ℕ) (j : JoinedSegment) : Type 0 where
    pub unit_is : slice_get (units_of segments) unit ≡ Some n
    pub segment : slice_get segments n ≡ Some j
    pub code_segment : slice_get (code_segments segments) unit ≡ Some j
    pub code : is_code j.kind ≡ true

  at_pick : (unit : ℕ) (p : ℕ × JoinedSegment) → slice_get picks unit ≡ Some p → UnitAt unit p.0 p.1
  at_pick unit p at =
      let is = in_filter is_unit (with_numbers 0 segments) p (got_in picks unit p at) in
      record {
        unit_is = rw (units_are 0 segments) (map_got pick_number picks unit p at);
        segment = at_number segments p is.0;
        code_segment = rw (codes_are 0 segments) (map_got pick_segment picks unit p at);
        code = is.1;
      }

  -- a unit is a segment of program memory, and such a segment is a unit
  pub code_of_unit : (unit n : ℕ) → slice_get (units_of segments) unit ≡ Some n → (j : JoinedSegment) × UnitAt unit n j
  code_of_unit unit n h =
      let of = map_at pick_number picks unit n (rw (units_are 0 segments) at h) in
      (of.0.1, rw of.2 at (at_pick unit of.0 of.1))

  pub unit_of_code : (unit : ℕ) (j : JoinedSegment) → slice_get (code_segments segments) unit ≡ Some j
      → (n : ℕ) × UnitAt unit n j
  unit_of_code unit j h =
      let of = map_at pick_segment picks unit j (rw (codes_are 0 segments) at h) in
      (of.0.0, rw of.2 at (at_pick unit of.0 of.1))

  pub unit_there : (k : ℕ) (j : JoinedSegment) → slice_get segments k ≡ Some j → is_code j.kind ≡ true
      → In k (units_of segments)
  unit_there k j at code =
      rw (units_are 0 segments)
      (map_in pick_number picks (k, j) (filter_in is_unit _ (k, j) (number_at segments k j at) code))

  -- two units of one number are one
  pub units_once : (u v n m : ℕ) → n ≡ m → slice_get (units_of segments) u ≡ Some n
      → slice_get (units_of segments) v ≡ Some m → u ≡ v
  units_once u v n m same h k =
      let a = map_at pick_number picks u n (rw (units_are 0 segments) at h) in
      let b = map_at pick_number picks v m (rw (units_are 0 segments) at k) in
      let rise = pairs_filter _ is_unit (with_numbers 0 segments) (numbers_rise segments) in
      grind (arith, pairs_between _ picks u v a.0 b.0 rise a.1 b.1, a.2, b.2, same)

-- roots among segments of program memory
pub root_there : (codes : List JoinedSegment) (unit : ℕ) (j : JoinedSegment) → slice_get codes unit ≡ Some j
    → is_root j ≡ true → In (j.base, unit) (roots_from 0 codes)
root_there codes unit j h root =
    rw (roots_are 0 codes)
    (map_in root_pair _ (unit, j) (filter_in is_rooted _ (unit, j) (number_at codes unit j h) root))

pub record RootAt (codes : List JoinedSegment) (vector unit : ℕ) : Type 0 where
  pub j : JoinedSegment
  pub segment : slice_get codes unit ≡ Some j
  pub root : is_root j ≡ true
  pub base : j.base ≡ vector

pub root_found : (codes : List JoinedSegment) (vector unit : ℕ) → In (vector, unit) (roots_from 0 codes)
    → RootAt codes vector unit
root_found codes vector unit h =
    let of = in_map root_pair _ (vector, unit) (rw (roots_are 0 codes) at h) in
    let is = in_filter is_rooted (with_numbers 0 codes) of.0 of.1 in
    let number : of.0.0 ≡ unit = ap (λ (p : ℕ × ℕ). p.1) of.2 in
    record {
      j = of.0.1;
      segment = rw number at (at_number codes of.0 is.0);
      root = is.1;
      base = ap (λ (p : ℕ × ℕ). p.0) of.2;
    }

-- what a root is
pub root_absolute : (j : JoinedSegment) → is_root j ≡ true → is_absolute j.reloc ≡ true
root_absolute j h = (and_parts (is_absolute j.reloc) (list_any (nat_eq j.base) vectors) h).0

pub is_root_at : (j : JoinedSegment) (vector : ℕ) → is_absolute j.reloc ≡ true → j.base ≡ vector
    → Contains vectors vector → is_root j ≡ true
is_root_at j vector abs base h =
    rw (
      abs,
      list_any_at (nat_eq j.base) vectors h.0 vector h.1
          (eq-eqb j.base (get_or vectors h.0 vector) (base ∙ sym h.2)),
    )

-- Where no two fixed extents share a cell, each vector has at most one root.

-- a plain segment is in conflict with each other one
plain_conflict : (g : GraphParts) (n m : ℕ) → n ≢ m → own_at g n ≡ None → in_conflict g n m ≡ true
plain_conflict g n m ne plain = rw (ne_eqb n m ne, plain)

module _ (c : Program) (shares : shared_extents (fixed c) ≡ None) where
  -- a root, as a fixed extent that covers its vector
  record IsFixedRoot (vector unit : ℕ) : Type 0 where
    n : ℕ
    j : JoinedSegment
    number : slice_get (units_of (segments c)) unit ≡ Some n
    plain : own_at c.g n ≡ None
    there : In (absolute n j) (fixed c)
    covers : Covers (extent_at (absolute n j).placed) (code_cell vector)

  fixed_root : (vector unit : ℕ) → graph.IsRootAt c.g vector unit → IsFixedRoot vector unit
  fixed_root vector unit h =
      let root = root_found (code_segments (segments c)) vector unit (in_contains _ _ (rw (shape c).roots at h)) in
      let at = unit_of_code (segments c) unit root.j root.segment in
      let abs = root_absolute root.j root.root in
      let some : 0 < root.j.size = (joined_at c at.0 root.j at.1.segment).some abs in
      record {
        n = at.0;
        j = root.j;
        number = at.1.unit_is;
        plain = bare_absolute c at.0 root.j at.1.segment abs;
        there =
            in_right (banks_of c.modules ++ reserves_of c.controls) (absolutes_from 0 (segments c)) _
            (rw (absolutes_are 0 (segments c)) (map_in absolute_at _ (at.0, root.j)
            (filter_in is_fixed _ (at.0, root.j) (number_at (segments c) at.0 root.j at.1.segment) abs)));
        covers = rw (code_is root.j.kind at.1.code)
            (record { space = refl; from = omega (arith, root.base); below = omega (arith, root.base, some) });
      }

  -- two at one vector have one number
  one_number : (vector a b : ℕ) (one : IsFixedRoot vector a) (two : IsFixedRoot vector b) → one.n ≢ two.n → ⊥
  one_number vector a b one two ne =
      elim (pairs_in (KeepApart c.g) (fixed c) _ _ (fixed_pairs c shares) one.there two.there) [
        | inl same ↦ ne (same_Some one.n two.n (ap (λ (x : Numbered). x.number) same))
        | inr pair ↦ elim pair [
          | inl keep ↦ keep.none (plain_conflict c.g one.n two.n ne one.plain) (_, one.covers, two.covers)
          | inr keep ↦ keep.none (plain_conflict c.g two.n one.n (λ e. ne (sym e)) two.plain)
              (_, two.covers, one.covers)
        ]
      ]

  pub one_root_each : (vector a b : ℕ) → graph.IsRootAt c.g vector a → graph.IsRootAt c.g vector b → a ≡ b
  one_root_each vector a b h h' =
      let one = fixed_root vector a h in
      let two = fixed_root vector b h' in
      elim (cases_eq one.n two.n) [
        | inl same ↦ units_once (segments c) a b one.n two.n same one.number two.number
        | inr ne ↦ absurd (one_number vector a b one two ne)
      ]

-- The layout of what was placed is sound.

-- the owners of an index are those of the extent there
owners_one : (index s : ℕ) (owners : List ℕ) (more : List (ℕ × ℕ))
    → owners_of (pairs_with index owners ++ more) s ≡ cond (nat_eq index s) owners [] ++ owners_of more s
owners_one index s [] more = grind arith
owners_one index s (u ∷ us) more = grind (arith, owners_one index s us more)

owners_skip : (index s : ℕ) (owners : List ℕ) (more : List (ℕ × ℕ)) → index ≢ s
    → owners_of (pairs_with index owners ++ more) s ≡ owners_of more s
owners_skip index s owners more ne = rw (owners_one, ne_eqb index s ne)

owners_before : (g : GraphParts) (first : ℕ) (es : List Numbered) (s : ℕ) → s < first
    → owners_of (owner_pairs g first es) s ≡ []
owners_before g first [] s less = refl
owners_before g first (e ∷ es) s less =
    rw (owners_skip first s (owners_of_extent g e) _ (omega (arith, less)))
    (owners_before g (first + 1) es s (omega (arith, less)))

owners_there : (g : GraphParts) (first : ℕ) (es : List Numbered) (k : ℕ)
    → owners_of (owner_pairs g first es) (first + k) ≡ option_map_or (owners_of_extent g) (slice_get es k) []
owners_there g first [] k = refl
owners_there g first (e ∷ es) zero =
    let sum : first + 0 ≡ first = omega arith in
    rw (
      sum,
      owners_one first first (owners_of_extent g e) _,
      eq-eqb first first refl,
      owners_before g (first + 1) es first (omega arith),
      append-nil,
    )
owners_there g first (e ∷ es) (suc k) =
    let sum : first + suc k ≡ first + 1 + k = omega arith in
    rw (sum, owners_skip first (first + 1 + k) (owners_of_extent g e) _ (omega arith)) (owners_there g (first + 1) es k)

pub owners_are : (g : GraphParts) (located : List Numbered) (s : ℕ)
    → owners_of (owner_pairs g 0 located) s ≡ option_map_or (owners_of_extent g) (slice_get located s) []
owners_are g located s = let same : 0 + s ≡ s = omega arith in rw same at (owners_there g 0 located s)

-- an extent with an owner is a joined segment
owner_number : (g : GraphParts) (number : Option ℕ) (unit : ℕ) → Contains (option_map_or (owners_at g) number []) unit
    → (n : ℕ) × (number ≡ Some n) × Contains (owners_at g n) unit
owner_number g None unit h = absurd (none_in_empty unit h)
owner_number g (Some n) unit h = (n, refl, h)

-- the callers of a unit rise, and are others
callers_rise : (g : GraphParts) (unit : ℕ) → Rises (callers_of g unit)
unfolding callers_of
callers_rise g unit =
    pairs_all _ _ (pairs_filter _ (λ caller. edge_test g.edges caller unit) _ (pairs_range (length g.units) 0))

abbrev others_of : GraphParts → Bool → ℕ → List ℕ
others_of g argument own = cond argument (callers_of g own) []

others_rise : (g : GraphParts) (argument : Bool) (own : ℕ) → Rises (others_of g argument own)
others_rise g true own = callers_rise g own
others_rise g false own = λ i j d less below. absurd (omega (arith, below))

others_differ : (g : GraphParts) → IsGraph g → (argument : Bool) (own : ℕ) → Contains (others_of g argument own) own → ⊥
others_differ g is true own h = is.no_cycle own (reach_edge g.edges own own (caller_edge g own own h))
others_differ g is false own h = none_in_empty own h

owner_below : (g : GraphParts) → IsGraph g → (s u : ℕ) → graph.Owns g u s → u < length g.units
owner_below g is s u owns = elim owns.owner [
  | inl same ↦ rw same (is.units.own owns.own s owns.own_is)
  | inr calls ↦ (is.units.edges.within u owns.own calls.1).0
]

-- the parts of the layout
module _ (segments : List JoinedSegment) (controls : List (ℕ × Control)) (g : GraphParts)
    (shape : IsOf segments controls g) (kept : IsGraph g) (located : List Numbered)
    (whole : IsWhole g segments located) where
  abbrev l : LayoutParts
  l = parts_of_layout g located

  abbrev IsAt : ℕ → Numbered → Type 0
  IsAt s e = slice_get located s ≡ Some e

  pub spot_at : (s : ℕ) (e : Numbered) → IsAt s e → IsSpot g segments e
  spot_at s e at = every_in (IsSpot g segments) located e whole.spots (got_in located s e at)

  stands : (s : ℕ) (p : Placed) → IsPlaced l s p → (e : Numbered) × IsAt s e × (e.placed ≡ p)
  stands s p h = map_at (λ (e : Numbered). e.placed) located s p h

  placed_at : (s : ℕ) (e : Numbered) → IsAt s e → IsPlaced l s e.placed
  placed_at s e at = map_got (λ (x : Numbered). x.placed) located s e at

  -- a segment has its number
  numbered : (s : ℕ) (e : Numbered) → IsAt s e → IsSegment e.placed.mark → (n : ℕ) × (e.number ≡ Some n)
      × IsSegmentOf g segments n e.placed
  numbered s e at segment = segment_at e (spot_at s e at) segment

  same_place : (n s t : ℕ) (e f : Numbered) → IsAt s e → IsAt t f → e.number ≡ Some n → f.number ≡ Some n → s ≡ t
  same_place n s t e f h k p q =
      let of = (spot_at s e h).numbered n p in
      only n located s t e f (omega (arith, whole.once n (slice_get_within segments n of.j of.is))) h k p q

  -- where the extent of a joined segment is
  record Entry (n : ℕ) (j : JoinedSegment) : Type 0 where
    e : Numbered
    at : IsAt (joined_index located n) e
    number : e.number ≡ Some n
    of : IsSegmentOf g segments n e.placed
    is : of.j ≡ j

  entry : (n : ℕ) (j : JoinedSegment) → slice_get segments n ≡ Some j → Entry n j
  entry n j at =
      let there = found g segments located whole n (slice_get_within segments n j at) in
      let of = (spot_at (joined_index located n) there.e there.at).numbered n there.number in
      record { e = there.e; at = there.at; number = there.number; of = of; is = cc (of.is, at) }

  -- the unit, its segment and its extent
  record Unit (unit s : ℕ) : Type 0 where
    n : ℕ
    j : JoinedSegment
    place : s ≡ joined_index located n
    at : UnitAt segments unit n j
    entry : Entry n j

  unit_at : (unit s : ℕ) → slice_get l.units unit ≡ Some s → Unit unit s
  unit_at unit s h =
      let read = map_at (joined_index located) g.units unit s h in
      let of = code_of_unit segments unit read.0 (ap (λ (us : List ℕ). slice_get us unit) (sym shape.units) ∙ read.1) in
      record { n = read.0; j = of.0; place = sym read.2; at = of.1; entry = entry read.0 of.0 of.1.segment }

  -- roots are those of the graph
  pub root_in : (vector unit : ℕ) → IsRootAt l vector unit → graph.IsRootAt g vector unit
  root_in vector unit h =
      let u = unit_at unit h.unit_is.segment h.unit_is.unit_is in
      let same : u.entry.e.placed ≡ h.is =
      cc (placed_at (joined_index located u.n) u.entry.e u.entry.at, h.unit_is.placed, u.place) in
      let abs = u.entry.of.absolute (ap (λ (p : Placed). p.mark) same ∙ h.absolute) in
      let base : u.entry.of.j.base ≡ vector =
      sym (u.entry.of.fixed abs).1 ∙ ap (λ (p : Placed). p.base) same ∙ h.base in
      let pair =
      root_there (code_segments segments) unit u.j u.at.code_segment
      (is_root_at u.j vector (rw u.entry.is at abs) (rw u.entry.is at base) h.vector_is) in
      rw shape.roots (contains_in _ _ (rw (rw u.entry.is at base) at pair))

  pub root_out : (vector unit : ℕ) → graph.IsRootAt g vector unit → IsRootAt l vector unit
  root_out vector unit h =
      let root = root_found (code_segments segments) vector unit (in_contains _ _ (rw shape.roots at h)) in
      let at = unit_of_code segments unit root.j root.segment in
      let there = entry at.0 root.j at.1.segment in
      let units : slice_get g.units unit ≡ Some at.0 = ap (λ (us : List ℕ). slice_get us unit) shape.units
      ∙ at.1.unit_is in
      let fixed = there.of.fixed (rw there.is (root_absolute root.j root.root)) in
      record {
        vector_is = (kept.units.roots vector unit h).0;
        is = there.e.placed;
        unit_is = record {
          segment = joined_index located at.0;
          unit_is = map_got (joined_index located) g.units unit at.0 units;
          placed = placed_at (joined_index located at.0) there.e there.at;
        };
        code = there.of.kind ∙ ap (λ (x : JoinedSegment). x.kind) there.is ∙ code_is root.j.kind at.1.code;
        absolute = fixed.0;
        base = fixed.1 ∙ ap (λ (x : JoinedSegment). x.base) there.is ∙ root.base;
      }

  -- the layout has the units of the graph
  pub same_units : HaveSameUnits (layout_graph l) (graph.joined_graph g)
  same_units =
      record { edges = λ u v. (λ h. h, λ h. h); roots = λ vector unit. (root_in vector unit, root_out vector unit) }

  -- an owner, by the index of its segment
  record Owned (s unit : ℕ) : Type 0 where
    e : Numbered
    there : IsAt s e
    n : ℕ
    number : e.number ≡ Some n
    owns : graph.Owns g unit n
    mark : e.placed.mark ≡ Overlaid

  owned_by : (s unit : ℕ) (read : Option Numbered) → slice_get located s ≡ read
      → Contains (option_map_or (owners_of_extent g) read []) unit → Owned s unit
  owned_by s unit None at h = absurd (none_in_empty unit h)
  owned_by s unit (Some e) at h =
      let n = owner_number g e.number unit h in
      let owns = owner_owns g n.0 unit n.2 in
      record {
        e = e;
        there = at;
        n = n.0;
        number = n.1;
        owns = owns;
        mark = ((spot_at s e at).numbered n.0 n.1).owned owns.own (own_read g n.0 owns.own owns.own_is);
      }

  owned : (s unit : ℕ) → Owns l unit s → Owned s unit
  owned s unit h = owned_by s unit (slice_get located s) refl (rw (owners_are g located s) at h)

  -- an overlaid extent has its own unit
  record HasOwn (s : ℕ) : Type 0 where
    n : ℕ
    own : ℕ
    owners : owners_of l.owners s ≡ own ∷ others_of g (is_argument_at g n) own

  overlaid : (s : ℕ) → IsOverlaid l s → HasOwn s
  overlaid s h =
      let at = stands s h.0 h.1 in
      let mark : at.0.placed.mark ≡ Overlaid = ap (λ (p : Placed). p.mark) at.2 ∙ h.2 in
      let n = overlaid_at at.0 (spot_at s at.0 at.1) mark in
      let own = n.2.overlaid mark in
      record { n = n.0; own = own.0; owners = owners_are g located s ∙ rw (at.1, n.1, own.1) }

  -- conflict of two extents
  segments_conflict : (s t n m : ℕ) (e f : Numbered) → IsAt s e → IsAt t f → e.number ≡ Some n → f.number ≡ Some m
      → ExtentsConflict l s t → SegmentsConflict g n m
  segments_conflict s t n m e f h k p q (FirstPlain plain) = FirstPlain (λ o.
      plain (e.placed, placed_at s e h, ((spot_at s e h).numbered n p).owned o.0 (own_read g n o.0 o.1)))
  segments_conflict s t n m e f h k p q (SecondPlain plain) = SecondPlain (λ o.
      plain (f.placed, placed_at t f k, ((spot_at t f k).numbered m q).owned o.0 (own_read g m o.0 o.1)))
  segments_conflict s t n m e f h k p q (Owners one two o o' related) =
      let first = owned s one o in
      let second = owned t two o' in
      let same_first : first.e ≡ e = cc (first.there, h) in
      let same_second : second.e ≡ f = cc (second.there, k) in
      let first_is : first.n ≡ n = cc (first.number, p, ap (λ (x : Numbered). x.number) same_first) in
      let second_is : second.n ≡ m = cc (second.number, q, ap (λ (x : Numbered). x.number) same_second) in
      Owners one two (rw first_is at first.owns) (rw second_is at second.owns)
      (related_there (layout_graph l) (graph.joined_graph g) same_units one two related)

  both_numbers : (s t : ℕ) (e f : Numbered) (a b : Option ℕ) → s ≢ t → IsAt s e → IsAt t f → e.number ≡ a
      → f.number ≡ b → ExtentsConflict l s t
      → option_map_or (λ number. option_map_or (λ other. in_conflict g other number) a true) b true ≡ true
  both_numbers s t e f a None ne h k p q conflict = refl
  both_numbers s t e f None (Some m) ne h k p q conflict = refl
  both_numbers s t e f (Some n) (Some m) ne h k p q conflict =
      (conflict_tells g kept.units n m (λ same. ne (same_place n s t e f h k p (rw same q)))).1
      (segments_conflict s t n m e f h k p q conflict)

  clear : (s t : ℕ) (p q : Placed) → IsPlaced l s p → IsPlaced l t q → s ≢ t → ExtentsConflict l s t
      → Meet (extent_at p) (extent_at q) → ⊥
  clear s t p q h k ne conflict meet =
      let a = stands s p h in
      let b = stands t q k in
      let met : Meet (extent_at a.0.placed) (extent_at b.0.placed) = rw (a.2, b.2) meet in
      elim (pairs_between (KeepApart g) located s t a.0 b.0 whole.apart a.1 b.1) [
        | inl same ↦ ne same
        | inr rest ↦ elim rest [
          | inl keep ↦ keep.none (both_numbers s t a.0 b.0 a.0.number b.0.number ne a.1 b.1 refl refl conflict) met
          | inr keep ↦ keep.none (both_numbers t s b.0 a.0 b.0.number a.0.number (λ e. ne (sym e)) b.1 a.1 refl
              refl (conflict_back (layout_graph l) s t conflict)) (met.0, met.2, met.1)
        ]
      ]

  units_length : length l.units ≡ length g.units
  units_length = length-map g.units (joined_index located)

  unit_once : (u v s : ℕ) → slice_get l.units u ≡ Some s → slice_get l.units v ≡ Some s → u ≡ v
  unit_once u v s h k =
      let a = unit_at u s h in
      let b = unit_at v s k in
      let one : a.entry.e ≡ b.entry.e = cc (a.entry.at, b.entry.at, a.place, b.place) in
      units_once segments u v a.n b.n (cc (
        a.entry.number,
        b.entry.number,
        ap (λ
            (x : Numbered). x.number) one,
      )) a.at.unit_is
      b.at.unit_is

  is_a_unit : (s : ℕ) (p : Placed) → IsPlaced l s p → IsCodeSegment p → Contains l.units s
  is_a_unit s p h code =
      let at = stands s p h in
      let n = numbered s at.0 at.1 (rw at.2 code.segment) in
      let kind : n.2.j.kind ≡ Code = sym n.2.kind ∙ ap (λ (x : Placed). x.kind) at.2 ∙ code.kind in
      let in_units = unit_there segments n.0 n.2.j n.2.is (ap is_code kind) in
      let there = entry n.0 n.2.j n.2.is in
      let same = same_place n.0 (joined_index located n.0) s there.e at.0 there.at at.1 there.number n.1 in
      contains_in _ _ (rw same at
      (map_in (joined_index located) g.units n.0 (subst (In n.0) (sym shape.units) in_units)))

  is_code_at : (u s : ℕ) → slice_get l.units u ≡ Some s → (p : Placed) × IsPlaced l s p × IsCodeSegment p
  is_code_at u s h =
      let a = unit_at u s h in (
        a.entry.e.placed,
        subst (λ x. IsPlaced l x a.entry.e.placed) (sym a.place)
            (placed_at (joined_index located a.n) a.entry.e a.entry.at),
        record {
          kind = a.entry.of.kind ∙ ap (λ (x : JoinedSegment). x.kind) a.entry.is ∙ code_is a.j.kind a.at.code;
          segment = a.entry.of.segment;
        },
      )

  pub sound : IsSound (parts_of_layout g located)
  sound = record {
    fit = λ s p h. let at = stands s p h in rw at.2 at (spot_at s at.0 at.1).fit;
    is_code = is_code_at;
    is_unit = is_a_unit;
    once = unit_once;
    few_units = let few : length g.units ≤ 1000 = kept.units.few_units in omega (arith, units_length, few);
    few_placed = omega (arith, length-map located (λ (e : Numbered). e.placed), whole.few);
    edges = λ u v h. let both = kept.units.edges.within u v h in
        (omega (arith, both.0, units_length), omega (arith, both.1, units_length));
    no_cycle = kept.no_cycle;
    owned = λ u s h. let o = owned s u h in
        (omega (arith, owner_below g kept o.n u o.owns, units_length), (o.e.placed, placed_at s o.e o.there, o.mark));
    owners = λ s h. let o = overlaid s h in record {
      own = o.own;
      others = others_of g (is_argument_at g o.n) o.own;
      are = o.owners;
      rising = others_rise g (is_argument_at g o.n) o.own;
      different = others_differ g kept (is_argument_at g o.n) o.own;
    };
    one_root = λ s u x y h under under'. let o = owned s u h in
        kept.one_root o.n u x y o.owns (under_there _ _ same_units x u under) (under_there _ _ same_units y u under');
    apart = clear;
  }

-- The bases of joined segments in what was placed.

module _ (g : GraphParts) (segments : List JoinedSegment) (located : List Numbered)
    (whole : IsWhole g segments located) where
  placed_as : (number : ℕ) (j : JoinedSegment) → slice_get segments number ≡ Some j
      → IsPlacedAs (parts_of_layout g located) (joined_base located number) j
  placed_as number j at =
      let entry = found g segments located whole number (slice_get_within segments number j at) in
      let there = got_in located (joined_index located number) entry.e entry.at in
      let of = (every_in (IsSpot g segments) located entry.e whole.spots there).numbered number entry.number in
      let same : of.j ≡ j = cc (of.is, at) in
      record {
        placed = entry.e.placed;
        there = contains_in _ _ (map_in (λ (e : Numbered). e.placed) located entry.e there);
        begins = sym (ap (λ (o : Option Numbered). option_map_or (λ (e : Numbered). e.placed.base) o 0) entry.first);
        is = subst (λ (x : JoinedSegment). IsSegmentAt x entry.e.placed) same (record {
          title = of.title;
          kind = of.kind;
          reloc = of.reloc;
          size = of.size;
          absolute = of.fixed;
          room = of.room;
        });
      }

  pub places_are : ArePlaces segments (placing_with g (length segments) located)
  places_are = record {
    len = length-map-range_with_len (joined_base located) 0 (length segments);
    each = λ number j at.
        subst (λ (base : ℕ). IsPlacedAs (parts_of_layout g located) base j)
        (sym (get_or-map-range_with_len (joined_base located) 0 (length segments) number number 0
        (slice_get_within segments number j at) (omega arith))) (placed_as number j at);
  }

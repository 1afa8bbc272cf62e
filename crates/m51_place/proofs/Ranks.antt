-- The joined segments and their graph, and the relocatable ones in their order.
use Rattle.m51_place.proofs
use proofs.Common.{Number, false_from_ne_true, position_or_len, prefix_len-le-length, second_sort_key, slice_get_within}
use proofs.Common.{IsInOrder, IsPermutation, JoinedSegment, absolutes_from, class_number, first_sort_key, overlay_reloc}
use proofs.Common.{IsPlaceable, ModuleParts, Pairs, above_tells, comes_before, group_number, overlay_kind, with_numbers}
use proofs.Common.{GraphParts, absolute_is, append-nil, fixup_edges, is_absolute, ranked_from, segments_of, unit_titles}
use proofs.Common.{Numbered, at_number, before_by, cases_Bool, drop_rest, false≢true, is_number, length-map, lies_under}
use proofs.Common.{Option, absolute, edges_of, graph_of, list_any, nat_tests, not-true, ranked_of, slice_get, unwrap_or}
use proofs.Common.{AreBits, AreKept, Control, Refusal, Segment, arith, order_of, parts_of, position, roots_of, units_of}
use proofs.Common.{Ok, Ranked, Result, allows, filter, get_or, insert, judged, length, nat_eq, one_if, put_all, rank_of}
use proofs.Common.{Abs, Bool, Code, Fits, List, Rank, Some, drop, false, leads, own_at, refl, subst, true, unless, ◌++◌}
use proofs.Common.{All, [], ap, inl, inr, map, not, put, suc, sym, ℕ, ◌%◌, ◌+◌, ◌/◌, ◌<◌, ◌∙◌, ◌∷◌, ◌≡◌, ◌≢◌, ◌≤◌, ◌⊎◌}
use Rattle.m51_cells.proofs.Members.{all_every, every_all, every_append, every_in, every_map, every_weaker, total_moved}
use Rattle.m51_cells.proofs.Members.{Every, every_of, got_in, in_filter, pairs_all, total}
use Rattle.m51_graph.specs.Locals.{own_units}
use Rattle.m51_module.specs.Validity.{IsSegmentValid, IsValid}
use Rattle.m51_resolve.specs.Joining.{all_segments, are_parts, firsts, firsts_after, joined_of}
use Rattle.std.proofs.lemmas.List.Elements.{All-head, All-tail}
use Rattle.std.proofs.lemmas.List.Sorted.{IsPermutation-append_right, IsPermutation-insert, IsPermutation-middle}
use Rattle.std.proofs.lemmas.List.Sorted.{All-permutation, IsPermutation-refl, IsPermutation-sym, IsPermutation-trans}
use proofs.Weights.{has_byte}

-- What is known of the joined segments of valid modules, and of their graph.

-- a joined segment has a kind that allows its type; an absolute one has at least one byte, fits at its base and is not
-- OVERLAYABLE, and one of program memory is not OVERLAYABLE
pub record IsJoined (j : JoinedSegment) : Type 0 where
  pub kind : j.kind ≢ Number
  pub reloc : allows j.kind j.reloc ≡ true
  pub some : is_absolute j.reloc ≡ true → 0 < j.size
  pub fits : is_absolute j.reloc ≡ true → Fits j.kind Abs j.base j.size
  pub plain : is_absolute j.reloc ≡ true → j.overlay ≡ false
  pub code : j.overlay ≡ true → j.kind ≢ Code

-- an absolute segment is joined with no other
size_of_absolute : (all : List Segment) (s : Segment) → s.reloc ≡ Abs → (joined_of all s).size ≡ s.size
size_of_absolute all s abs = rw abs (omega arith)

joined_valid : (all : List Segment) (s : Segment) → IsSegmentValid s → IsJoined (joined_of all s)
joined_valid all s h = record {
  kind = h.kind;
  reloc = h.reloc;
  some = λ a. let abs = absolute_is s.reloc a in let v : 0 < s.size = (h.absolute abs).some in
      omega (arith, v, size_of_absolute all s abs);
  fits = λ a. let abs = absolute_is s.reloc a in
      subst (λ n. Fits s.kind Abs s.base n) (sym (size_of_absolute all s abs)) (h.absolute abs).fits;
  plain = λ a. elim (cases_Bool s.overlay) [
    | inl marked ↦ absurd (overlay_reloc s.kind s.reloc (h.overlay marked) (absolute_is s.reloc a))
    | inr bare ↦ bare
  ];
  code = λ marked. overlay_kind s.kind s.reloc (h.overlay marked);
}

-- all segments of valid modules are valid, those that are seen first too
all_valid : (modules : List ModuleParts) → All IsValid modules → Every IsSegmentValid (all_segments modules)
all_valid [] h = tt
all_valid (m ∷ more) h =
    every_append IsSegmentValid m.segments (all_segments more)
    (all_every IsSegmentValid m.segments (All-head IsValid m more h).segments)
    (all_valid more (All-tail IsValid m more h))

firsts_pass : (P : Segment → Type 0) (before xs : List Segment) → Every P xs → Every P (firsts_after before xs)
firsts_pass P before [] h = tt
firsts_pass P before (s ∷ more) h =
    let rest = firsts_pass P (before ++ s ∷ []) more h.1 in
    elim (cases_Bool (list_any (are_parts s) before)) [ inl seen ↦ rw seen rest | inr new ↦ rw new (h.0, rest) ]

all_joined : (modules : List ModuleParts) → All IsValid modules → Every IsJoined (segments_of modules)
all_joined modules h =
    let all = all_segments modules in
    every_map (joined_of all) IsJoined (firsts all)
    (every_weaker _ _ _ (joined_valid all) (firsts_pass IsSegmentValid [] all (all_valid modules h)))

-- the graph of modules and control lines has the units, roots, own units and marks of the joined segments
pub record IsOf (segments : List JoinedSegment) (controls : List (ℕ × Control)) (g : GraphParts) : Type 0 where
  pub units : g.units ≡ units_of segments
  pub roots : g.roots ≡ roots_of segments
  pub own : g.own ≡ own_units (unit_titles segments) controls segments

unless_ok : {V : Type 0} (rule : Option Refusal) (after : Result V Refusal) (v : V) → unless rule after ≡ Ok v → after
    ≡ Ok v
unless_ok rule after v h = grind arith

judged_is : (titles : List (List ℕ)) (p g : GraphParts) → judged titles p ≡ Ok g → p ≡ g
judged_is titles p g h = grind arith

pub graph_is : (modules : List ModuleParts) (controls : List (ℕ × Control)) (g : GraphParts) → graph_of modules controls
    ≡ Ok g → IsOf (segments_of modules) controls g
graph_is modules controls g h =
    let segments = segments_of modules in
    let titles = unit_titles segments in
    let p : GraphParts = parts_of segments controls (edges_of titles controls (fixup_edges modules)) in
    let is : p ≡ g = judged_is titles p g (unless_ok _ _ g (unless_ok _ _ g h)) in
    subst (λ x. IsOf segments controls x) is (record { units = refl; roots = refl; own = refl })

-- The order in which segments are placed.

-- the index of the first that passes, or the end
abbrev pub place_in : {X : Type 0} → (X → Bool) → List X → ℕ
place_in p xs = unwrap_or (position p xs) (length xs)

pub front_within : {X : Type 0} → (p : X → Bool) (xs : List X) → position_or_len p xs ≤ length xs
front_within p xs = prefix_len-le-length (λ x. not (p x)) xs

pub place_is : {X : Type 0} → (p : X → Bool) (xs : List X) → place_in p xs ≡ position_or_len p xs
place_is p xs = let within = front_within p xs in grind (arith, nat_tests, within)

-- one more is put before the first that it comes before
pub put_is : (t : Ranked) (order : List Ranked) → put t order
    ≡ insert order (place_in (λ u. comes_before t.rank u.rank) order) t
put_is t order = rw place_is (insert_there t order)
  where
    insert_there : (t : Ranked) (order : List Ranked) → put t order
        ≡ insert order (position_or_len (λ u. comes_before t.rank u.rank) order) t
    insert_there t [] = refl
    insert_there t (u ∷ more) = elim (cases_Bool (comes_before t.rank u.rank)) [
      | inl here ↦ rw here refl
      | inr after ↦
          let p : Ranked → Bool = λ v. comes_before t.rank v.rank in
          let next : position_or_len p (u ∷ more) ≡ suc (position_or_len p more) = rw after (omega arith) in
          rw (next, after, insert_there t more) refl
    ]

-- the lowest of the bits that say under which roots a unit lies
module _ (g : GraphParts) (unit : ℕ) (xs : List ℕ) (bits i : ℕ) (below : i < length xs)
    (are : AreBits g unit (drop i xs) bits) where
  abbrev above : ℕ → Bool
  above vector = lies_under (leads g.edges) g.roots vector unit

  here : AreBits g unit (get_or xs i 0 ∷ drop (i + 1) xs) bits
  here = rw (drop_rest xs i 0 below) at are

  pub bit_set : bits % 2 ≡ 1 → position_or_len (λ vector. lies_under (leads g.edges) g.roots vector unit) (drop i xs)
      ≡ 0
  bit_set set = rw (drop_rest xs i 0 below, (above_tells g (get_or xs i 0) unit).1 (here.0.0 set))

  pub bits_left : AreBits g unit (drop (i + 1) xs) (bits / 2)
  bits_left = here.1

  pub bit_clear : bits % 2 ≢ 1
      → position_or_len (λ vector. lies_under (leads g.edges) g.roots vector unit) (drop i xs)
      ≡ 1 + position_or_len (λ vector. lies_under (leads g.edges) g.roots vector unit) (drop (i + 1) xs)
  bit_clear clear =
      let fails = false_from_ne_true (above (get_or xs i 0))
      (λ is. clear (here.0.1 ((above_tells g (get_or xs i 0) unit).0 is))) in
      rw (drop_rest xs i 0 below, fails)

-- The relocatable segments in their order: each once.

-- the order is the segments, moved
put_moves : (t : Ranked) (order : List Ranked) → IsPermutation (t ∷ order) (put t order)
put_moves t order = rw put_is (IsPermutation-insert order (place_in (λ u. comes_before t.rank u.rank) order) t)

all_moves : (order ranked : List Ranked) → IsPermutation (ranked ++ order) (put_all order ranked)
all_moves order [] = IsPermutation-refl order
all_moves order (t ∷ more) =
    IsPermutation-trans _ (more ++ put t order) _
    (IsPermutation-trans _ (more ++ t ∷ order) _ (IsPermutation-sym _ _ (IsPermutation-middle more t order))
    (IsPermutation-append_right more (t ∷ order) (put t order) (put_moves t order)))
    (all_moves (put t order) more)

pub order_moves : (g : GraphParts) (controls : List (ℕ × Control)) (segments : List JoinedSegment)
    → IsPermutation (ranked_from g controls 0 segments) (order_of g controls segments)
order_moves g controls segments = rw append-nil at (all_moves [] (ranked_from g controls 0 segments))

-- the ranked is of a relocatable joined segment
pub record IsRankedOf (g : GraphParts) (controls : List (ℕ × Control)) (segments : List JoinedSegment)
    (t : Ranked) : Type 0 where
  pub segment : slice_get segments t.number ≡ Some t.segment
  pub own : t.own ≡ own_at g t.number
  pub relocatable : is_absolute t.segment.reloc ≡ false
  pub rank : t.rank ≡ rank_of g controls t.number t.segment t.own

-- the absolute segments and the relocatable ones, each with its number
abbrev pub is_fixed : ℕ × JoinedSegment → Bool
is_fixed p = is_absolute p.1.reloc

abbrev pub absolute_at : ℕ × JoinedSegment → Numbered
absolute_at p = absolute p.0 p.1

pub absolutes_are : (number : ℕ) (rest : List JoinedSegment)
    → absolutes_from number rest ≡ map absolute_at (filter is_fixed (with_numbers number rest))
absolutes_are number [] = refl
absolutes_are number (j ∷ more) = grind (arith, absolutes_are (number + 1) more)

module _ (g : GraphParts) (controls : List (ℕ × Control)) (segments : List JoinedSegment) where
  abbrev ranked_at : ℕ × JoinedSegment → Ranked
  ranked_at p = ranked_of g controls p.0 p.1

  ranked_are : (number : ℕ) (rest : List JoinedSegment) → ranked_from g controls number rest
      ≡ map ranked_at (filter (λ p. not (is_fixed p)) (with_numbers number rest))
  ranked_are number [] = refl
  ranked_are number (j ∷ more) = grind (arith, ranked_are (number + 1) more)

  pub order_ranked : Every (IsRankedOf g controls segments) (order_of g controls segments)
  order_ranked =
      let P : Ranked → Type 0 = IsRankedOf g controls segments in
      let all = every_map ranked_at P _ (every_of _ (filter (λ p. not (is_fixed p)) (with_numbers 0 segments)) (λ p i.
      let is = in_filter (λ p. not (is_fixed p)) (with_numbers 0 segments) p i in
      record {
        segment = at_number segments p is.0;
        own = refl;
        relocatable = not-true (is_fixed p) is.1;
        rank = refl;
      })) in
      all_every P _ (All-permutation P _ _ (order_moves g controls segments)
      (every_all P _ (rw (← ranked_are 0 segments) at all)))

-- a graph has an owner, or none, for each joined segment
pub as_many_own : (segments : List JoinedSegment) (controls : List (ℕ × Control)) (g : GraphParts)
    → IsOf segments controls g → length g.own ≡ length segments
as_many_own segments controls g is = ap (λ (os : List (Option ℕ)). length os) is.own ∙ length-map segments _

-- valid modules, control lines and their graph
pub record Program : Type 0 where
  pub modules : List ModuleParts
  pub controls : List (ℕ × Control)
  pub g : GraphParts
  pub valid : All IsValid modules
  pub kept : AreKept controls
  pub of : graph_of modules controls ≡ Ok g

abbrev pub program : (modules : List ModuleParts) (controls : List (ℕ × Control)) (g : GraphParts)
    → All IsValid modules → AreKept controls → graph_of modules controls ≡ Ok g → Program
program modules controls g valid kept of =
    record { modules = modules; controls = controls; g = g; valid = valid; kept = kept; of = of }

module _ (c : Program) where
  abbrev pub segments : List JoinedSegment
  segments = segments_of c.modules

  abbrev pub order : List Ranked
  order = order_of c.g c.controls segments

  pub shape : IsOf segments c.controls c.g
  shape = graph_is c.modules c.controls c.g c.of

  pub joined_at : (number : ℕ) (j : JoinedSegment) → slice_get segments number ≡ Some j → IsJoined j
  joined_at number j is = every_in IsJoined segments j (all_joined c.modules c.valid) (got_in segments number j is)

  pub ranked : Every (IsRankedOf c.g c.controls segments) order
  ranked = order_ranked c.g c.controls segments

  pub ready : All (IsPlaceable c.g) order
  ready = every_all _ order (every_weaker (IsRankedOf c.g c.controls segments) (IsPlaceable c.g) order (λ t h.
      let joined = joined_at t.number t.segment h.segment in
      record {
        inside = omega (arith, slice_get_within segments t.number t.segment h.segment, as_many_own _ _ _ shape);
        kind = joined.kind;
        reloc = joined.reloc;
      }) ranked)

-- how often a number occurs among ranked segments and among extents
abbrev pub ranked_count : ℕ → Ranked → ℕ
ranked_count m t = one_if (nat_eq m t.number)

abbrev pub extent_count : ℕ → Numbered → ℕ
extent_count m e = one_if (is_number m e)

-- of segments from a number on, each number occurs once, among absolute ones or among ranked
module _ (g : GraphParts) (controls : List (ℕ × Control)) (m : ℕ) where
  counted : (number : ℕ) (rest : List JoinedSegment)
      → total (extent_count m) (absolutes_from number rest) + total (ranked_count m)
      (ranked_from g controls number rest)
      ≡ one_if (has_byte number (length rest) m)
  counted number [] = grind (arith, nat_tests)
  counted number (j ∷ more) = grind (arith, nat_tests, counted (number + 1) more)

-- each number of a joined segment occurs once, among absolute segments or in the order
pub once : (g : GraphParts) (controls : List (ℕ × Control)) (segments : List JoinedSegment) (m : ℕ)
    → m < length segments
    → total (extent_count m) (absolutes_from 0 segments) + total (ranked_count m) (order_of g controls segments) ≡ 1
once g controls segments m below =
    let moved = total_moved (ranked_count m) _ _ (order_moves g controls segments) in
    grind (arith, nat_tests, counted g controls m 0 segments, moved)

-- The order rises by rank.

abbrev Either : Bool → Bool → Type 0
Either n m = (n ≡ true) ⊎ (m ≡ true)

level_total : (x y : ℕ) (n m : Bool) → Either n m → Either (before_by x y n) (before_by y x m)
level_total x y n m next = grind (arith, nat_tests)

level_trans : (x y z : ℕ) (n m k : Bool) → (n ≡ true → m ≡ true → k ≡ true) → before_by x y n ≡ true → before_by y z m
    ≡ true → before_by x z k ≡ true
level_trans x y z n m k next h h' = grind (arith, nat_tests)

-- of two ranks with different numbers one comes before the other
rank_total : (a b : Rank) → a.number ≢ b.number → Either (comes_before a b) (comes_before b a)
rank_total a b ne =
    level_total (class_number a.class) (class_number b.class) _ _
    (level_total (group_number a.group) (group_number b.group) _ _
    (level_total (first_sort_key a.group) (first_sort_key b.group) _ _
    (level_total (second_sort_key a.group) (second_sort_key b.group) _ _ (grind (arith, nat_tests, ne)))))

rank_trans : (a b c : Rank) → comes_before a b ≡ true → comes_before b c ≡ true → comes_before a c ≡ true
rank_trans a b c =
    level_trans (class_number a.class) (class_number b.class) (class_number c.class) _ _ _
    (level_trans (group_number a.group) (group_number b.group) (group_number c.group) _ _ _
    (level_trans (first_sort_key a.group) (first_sort_key b.group) (first_sort_key c.group) _ _ _
    (level_trans (second_sort_key a.group) (second_sort_key b.group) (second_sort_key c.group) _ _ _
    (λ h h'. grind (arith, nat_tests, h, h')))))

abbrev pub Earlier : Ranked → Ranked → Type 0
Earlier t u = comes_before t.rank u.rank ≡ true

abbrev IsBelow : ℕ → Ranked → Type 0
IsBelow number u = u.rank.number < number

every_put : (P : Ranked → Type 0) (t : Ranked) (order : List Ranked) → P t → Every P order → Every P (put t order)
every_put P t [] h all = (h, tt)
every_put P t (u ∷ more) h all = elim (cases_Bool (comes_before t.rank u.rank)) [
  | inl here ↦ rw here (h, all)
  | inr after ↦ rw after (all.0, every_put P t more h all.1)
]

-- an order that rises still does with one more, whose number is above all of its numbers
put_rises : (t : Ranked) (order : List Ranked) → Pairs Earlier order → Every (IsBelow t.rank.number) order
    → Pairs Earlier (put t order)
put_rises t [] h below = (tt, tt)
put_rises t (u ∷ more) h below = elim (cases_Bool (comes_before t.rank u.rank)) [
  | inl here ↦ rw here (
    (here, every_weaker (Earlier u) (Earlier t) more (λ v. rank_trans t.rank u.rank v.rank here) h.0),
    h,
  )
  | inr after ↦
      let before : Earlier u t = elim (rank_total t.rank u.rank (λ same. omega (arith, same, below.0)))
      [ inl e ↦ absurd (false≢true (sym after ∙ e)) | inr e ↦ e ] in
      rw after (every_put (Earlier u) t more before h.0, put_rises t more h.1 below.1)
]

rises_from : (g : GraphParts) (controls : List (ℕ × Control)) (number : ℕ) (rest : List JoinedSegment)
    (order : List Ranked) → Pairs Earlier order → Every (IsBelow number) order
    → Pairs Earlier (put_all order (ranked_from g controls number rest))
rises_from g controls number [] order h below = h
rises_from g controls number (j ∷ more) order h below =
    let t : Ranked = ranked_of g controls number j in
    let higher = every_weaker (IsBelow number) (IsBelow (number + 1)) order (λ u h. omega (arith, h)) below in
    elim (cases_Bool (is_absolute j.reloc)) [
      | inl abs ↦ rw abs (rises_from g controls (number + 1) more order h higher)
      | inr rel ↦ rw rel (rises_from g controls (number + 1) more (put t order) (put_rises t order h below)
          (every_put (IsBelow (number + 1)) t order (omega arith) higher))
    ]

pub order_rises : (g : GraphParts) (controls : List (ℕ × Control)) (segments : List JoinedSegment)
    → Pairs Earlier (order_of g controls segments)
order_rises g controls segments = rises_from g controls 0 segments [] tt tt

pub in_order : (g : GraphParts) (controls : List (ℕ × Control)) (segments : List JoinedSegment)
    → IsInOrder g controls segments
in_order g controls segments =
    record { rises = pairs_all _ _ (order_rises g controls segments); once = order_moves g controls segments }

-- Overlaid segments in the order: they stand together, by the roots above their units and the levels of those.
use Rattle.m51_place.proofs
use proofs.Common.{FirstUnderNone, SecondUnderNone, SegmentsConflict, class_number, fails_before_first, passes_at_first}
use proofs.Common.{JoinedSegment, UnitLiesUnder, comes_before, group_before, group_number, joined_graph, range_with_len}
use proofs.Common.{AreRelated, FirstPlain, GraphParts, IsArgument, SecondPlain, above_tells, cases_Bool, root_number, ℕ}
use proofs.Common.{UnderTwo, and_parts, before_by, false≢true, lies_under, nat_tests, not-false, unwrap_or, walk_short}
use proofs.Common.{Before, Control, HasEdge, IsGraph, Reaches, UnitType, cases_lt, ends_on, is_some, not-true, order_of}
use proofs.Common.{Direct, IsWalk, Option, Owners, Ranked, [], get_or, last_of, length, nat_eq, nat_lt, own_at, vectors}
use proofs.Common.{After, Bool, Edges, IsOwn, List, None, Owns, Pairs, Same, Some, ap, arith, cond, false, leads, subst}
use proofs.Common.{find, inl, inr, not, refl, suc, sym, true, zero, ◌++◌, ◌+◌, ◌-◌, ◌<◌, ◌∙◌, ◌∷◌, ◌≡◌, ◌≤◌}
use Rattle.m51_cells.proofs.Members.{Every, every_append, every_right, every_weaker}
use Rattle.m51_control.specs.declared.control.Class.TheVariants.{Direct as DirectClass}
use Rattle.m51_graph.proofs.Walking.{ends_walk_tells, fewer}
use Rattle.m51_graph.specs.Levels.{EndsWalk, ends_walk, level_of}
use Rattle.m51_place.specs.Conflicts.{are_owners_related, in_conflict, owners_at}
use Rattle.m51_place.specs.Overlay.{OverlaysData, before_overlaid, overlaid_in}
use Rattle.m51_place.specs.declared.ranked.Group.TheVariants.{Overlaid}
use proofs.Conflicting.{own_is, segments_tell}
use proofs.Free.{find_first}
use proofs.Ranks.{Earlier, IsRankedOf, front_within, order_ranked, order_rises}

-- Levels rise along walks.

-- a walk of as many edges as the level ends in the unit, and none of one more
record HasLevel (edges : Edges) (unit level : ℕ) : Type 0 where
  walk : EndsWalk edges unit level
  ends : EndsWalk edges unit (suc level) → ⊥

-- no walk has more than a thousand edges
module _ (edges : Edges) (short : (unit count : ℕ) → EndsWalk edges unit count → count ≤ 1000) where
  abbrev stops : ℕ → ℕ → Bool
  stops unit count = not (ends_walk edges (suc count) unit)

  walk_to : (unit level : ℕ) → ((k : ℕ) → k < level → stops unit k ≡ false) → EndsWalk edges unit level
  walk_to unit zero h = record { first = unit; more = []; walk = tt; ends = refl; count_is = refl }
  walk_to unit (suc k) h =
      (ends_walk_tells edges (suc k) unit).0 (not-false (ends_walk edges (suc k) unit) (h k (omega arith)))

  level_found : (unit : ℕ) (found : Option ℕ) → find (stops unit) (range_with_len 0 65536) ≡ found
      → HasLevel edges unit (unwrap_or found 0)
  level_found unit None h =
      let goes = find_first (stops unit) 65536 None h 1000 (omega arith) (omega arith) in
      let long = short unit 1001 ((ends_walk_tells edges 1001 unit).0 (not-false (ends_walk edges 1001 unit) goes)) in
      absurd (omega (arith, long))
  level_found unit (Some level) h =
      let first = find_first (stops unit) 65536 (Some level) h in
      record {
        walk = walk_to unit level (λ k. first.2 k (omega arith));
        ends = λ walk. false≢true
            (sym (not-true (ends_walk edges (suc level) unit) first.0)
            ∙ (ends_walk_tells edges (suc level) unit).1 walk);
      }

  has_level : (unit : ℕ) → HasLevel edges unit (level_of edges unit)
  unfolding level_of
  has_level unit = level_found unit (find (stops unit) (range_with_len 0 65536)) refl

  edge_rises : (u v : ℕ) → HasEdge edges u v → level_of edges u < level_of edges v
  edge_rises u v e =
      elim (cases_lt (level_of edges u) (level_of edges v)) [
        | inl less ↦ less
        | inr not_less ↦
            let on = ends_on edges u v (level_of edges u) (has_level u).walk e in
            let gap : ℕ = level_of edges u - level_of edges v in
            let split : level_of edges u + 1 ≡ gap + suc (level_of edges v) = omega (arith, not_less) in
            absurd ((has_level v).ends
            (fewer edges v (suc (level_of edges v)) gap (subst (λ n. EndsWalk edges v n) split on)))
      ]

  walk_rises : (u v : ℕ) (more : List ℕ) → IsWalk edges u (v ∷ more)
      → level_of edges u < level_of edges (last_of v more)
  walk_rises u v [] walk = edge_rises u v walk.0
  walk_rises u v (w ∷ more) walk = omega (arith, edge_rises u v walk.0, walk_rises v w more walk.1)

  pub reach_rises : (u v : ℕ) → Reaches edges u v → level_of edges u < level_of edges v
  reach_rises u v h = subst (λ x. level_of edges u < level_of edges x) h.ends (walk_rises u h.next h.more h.walk)

-- Which of two overlaid segments comes first in the order: by the roots above their units, and then by the levels of
-- those. In the order the overlaid segments stand together.

-- an overlaid segment of DATA, with its own unit
pub record IsLocalData (g : GraphParts) (t : Ranked) (unit : ℕ) : Type 0 where
  pub own : IsOwn g unit t.number
  pub kind : t.segment.kind ≡ Direct
  pub reloc : t.segment.reloc ≡ UnitType
  pub class : t.rank.class ≡ Some DirectClass
  pub group : t.rank.group ≡ Overlaid (root_number g unit) (level_of g.edges unit)

pub record IsLocalOne (g : GraphParts) (t : Ranked) : Type 0 where
  pub unit : ℕ
  pub own_is : t.own ≡ Some unit
  pub local : IsLocalData g t unit
  pub no_argument : IsArgument g t.number → ⊥

abbrev pub IsPlain : GraphParts → Ranked → Type 0
IsPlain g t = own_at g t.number ≡ None

pub record IsLone (g : GraphParts) (t : Ranked) : Type 0 where
  pub lone : IsPlain g t
  pub other : group_number t.rank.group ≡ 2 → ⊥

-- The unit of an earlier segment, compared with that of a later one in conflict: under an earlier root, the same, one
-- that reaches it, or both under no root.
pub data Precedes (g : GraphParts) (u v : ℕ) : Type 0 where
  EarlierRoot : root_number g u < root_number g v → Precedes g u v
  SameUnit : u ≡ v → Precedes g u v
  Leads : root_number g u ≡ root_number g v → Reaches g.edges u v → Precedes g u v
  UnderNone : root_number g u ≡ 7 → root_number g v ≡ 7 → Precedes g u v

-- the numbers of one that comes before another
record AreNotAfter (one two first second : ℕ) : Type 0 where
  roots : one ≤ two
  levels : one ≡ two → first ≤ second

numbers_rise : (one two first second : ℕ) (next : Bool) → before_by one two (before_by first second next) ≡ true
    → AreNotAfter one two first second
numbers_rise one two first second next h =
    record { roots = grind (arith, nat_tests); levels = λ same. grind (arith, nat_tests) }

-- what follows where two numbers are one
after_same : (x : ℕ) (next : Bool) → before_by x x next ≡ true → next ≡ true
after_same x next h = grind (arith, nat_tests)

-- between two overlaid segments of DATA there is no plain one
between : (g : GraphParts) (t u v : Ranked) → IsLocalOne g t → IsLocalOne g v → Earlier t u → Earlier u v
    → group_number u.rank.group ≡ 2
between g t u v a b h k =
    let first = numbers_rise 2 (class_number u.rank.class) 2 (group_number u.rank.group) _
    (rw (a.local.class, a.local.group) at h) in
    let second = numbers_rise (class_number u.rank.class) 2 (group_number u.rank.group) 2 _
    (rw (b.local.class, b.local.group) at k) in
    let same : 2 ≡ class_number u.rank.class = omega (arith, first.roots, second.roots) in
    omega (arith, first.levels same, second.levels (sym same))

-- an order, split at its overlaid segments
pub record AreParts (g : GraphParts) (order : List Ranked) : Type 0 where
  pub rest : List Ranked
  pub are : order ≡ before_overlaid order ++ (overlaid_in order ++ rest)
  pub before : Every (IsLone g) (before_overlaid order)
  pub locals : Every (IsLocalOne g) (overlaid_in order)
  pub after : Every (IsPlain g) rest

-- each of an order is plain, or overlaid DATA
pub data IsEither (g : GraphParts) (t : Ranked) : Type 0 where
  OnePlain : t.own ≡ None → IsLone g t → IsEither g t
  OneLocal : (unit : ℕ) → t.own ≡ Some unit → IsLocalOne g t → IsEither g t

-- after an overlaid segment come overlaid ones, and then plain ones
rest_after : (g : GraphParts) (t : Ranked) (more : List Ranked) → IsLocalOne g t → Every (Earlier t) more
    → Pairs Earlier more → AreParts g more → (bs os : List Ranked) → (rest : List Ranked) → more ≡ bs ++ (os ++ rest)
    → Every (IsLone g) bs → Every (IsLocalOne g) os → Every (IsPlain g) rest
    → (later : List Ranked) × (more ≡ os ++ later) × Every (IsPlain g) later
rest_after g t more one first pairs p [] os rest are lone local plain = (rest, are, plain)
rest_after g t more one first pairs p (b ∷ bs) [] rest are lone local plain = (
  b ∷ bs ++ rest,
  are,
  (
    lone.0.lone,
    every_append (IsPlain g) bs rest (every_weaker (IsLone g) _ bs
        (λ _ h. h.lone) lone.1) plain,
  ),
)
rest_after g t more one first pairs p (b ∷ bs) (o ∷ os) rest are lone local plain =
    let after = rw are at first in
    let all = rw are at pairs in
    absurd (lone.0.other (between g t b o one local.0 after.0 (every_right (Earlier b) bs (o ∷ os ++ rest) all.0).0))

pub parts : (g : GraphParts) (order : List Ranked) → Every (IsEither g) order → Pairs Earlier order → AreParts g order
parts g [] either rising = record { rest = []; are = refl; before = tt; locals = tt; after = tt }
parts g (t ∷ more) either rising =
    let p = parts g more either.1 rising.1 in
    elim either.0 [
      | OnePlain own lone ↦
          let bare : is_some t.own ≡ false = ap is_some own in
          record {
            rest = p.rest;
            are = rw bare (ap (λ (ts : List Ranked). t ∷ ts) p.are);
            before = rw bare (lone, p.before);
            locals = rw bare p.locals;
            after = p.after;
          }
      | OneLocal unit own one ↦
          let there : is_some t.own ≡ true = ap is_some own in
          let later = rest_after g t more one rising.0 rising.1 p (before_overlaid more) (overlaid_in more) p.rest p.are
          p.before p.locals p.after in
          record {
            rest = later.0;
            are = rw there (ap (λ (ts : List Ranked). t ∷ ts) later.1);
            before = rw there tt;
            locals = rw there (one, p.locals);
            after = later.2;
          }
    ]

module _ (g : GraphParts) (controls : List (ℕ × Control)) (segments : List JoinedSegment)
    (data_only : OverlaysData segments g) where
  either : (t : Ranked) (own : Option ℕ) → IsRankedOf g controls segments t → t.own ≡ own → IsEither g t
  either t None is h = OnePlain h (record {
    lone = sym is.own ∙ h;
    other = λ two. let in_group = rw (is.rank, h) at two in grind (arith, in_group);
  })
  either t (Some unit) is h =
      let own = own_is g t.number unit (sym is.own ∙ h) in
      let told = data_only.data_only t.number unit t.segment own is.segment in
      OneLocal unit h (record {
        unit = unit;
        own_is = h;
        local = record {
          own = own;
          kind = told.0;
          reloc = told.1;
          class = rw (is.rank, told.0, told.1);
          group = rw (is.rank, h);
        };
        no_argument = data_only.no_argument t.number unit own;
      })

  pub order_parts : AreParts g (order_of g controls segments)
  order_parts =
      parts g _ (every_weaker _ _ _ (λ t is. either t t.own is refl) (order_ranked g controls segments))
      (order_rises g controls segments)

module _ (g : GraphParts) (is : IsGraph g) where
  short : (unit count : ℕ) → EndsWalk g.edges unit count → count ≤ 1000
  short unit count walk =
      omega (arith, walk_short (length g.units) g.edges is.units.edges is.no_cycle unit count walk, is.units.few_units)

  -- the overlaid segment that comes first is under no later root, and under the same root on no higher level
  ranks : (t u : Ranked) (v w : ℕ) → IsLocalData g t v → IsLocalData g u w → comes_before t.rank u.rank ≡ true
      → AreNotAfter (root_number g v) (root_number g w) (level_of g.edges v) (level_of g.edges w)
  ranks t u v w a b h =
      let rest : Bool = nat_lt t.rank.number u.rank.number in
      let one = Overlaid (root_number g v) (level_of g.edges v) in
      let two = Overlaid (root_number g w) (level_of g.edges w) in
      numbers_rise (root_number g v) (root_number g w) (level_of g.edges v) (level_of g.edges w) rest
      (after_same 2 (before_by (root_number g v) (root_number g w)
      (before_by (level_of g.edges v) (level_of g.edges w) rest))
      (after_same 2 (group_before one two rest) (rw (a.class, b.class, a.group, b.group) at h)))

  -- the root above a unit, or none
  abbrev test : ℕ → ℕ → Bool
  test unit vector = lies_under (leads g.edges) g.roots vector unit

  pub root_above : (unit : ℕ) → root_number g unit < 7 → UnitLiesUnder g (get_or vectors (root_number g unit) 0) unit
  root_above unit below =
      (above_tells g (get_or vectors (root_number g unit) 0) unit).0 (passes_at_first (test unit) vectors 0 below)

  pub no_root : (unit : ℕ) → root_number g unit ≡ 7 → (vector : ℕ) → UnitLiesUnder g vector unit → ⊥
  no_root unit end vector lies =
      let at = (is.units.roots vector lies.root lies.is_root).0 in
      let inside : at.0 < 7 = at.1 in
      let fails = fails_before_first (test unit) vectors at.0 vector (omega (arith, inside, end)) in
      false≢true (sym fails ∙ ap (test unit) at.2 ∙ (above_tells g vector unit).1 lies)

  pub few_roots : (unit : ℕ) → root_number g unit ≤ 7
  few_roots unit = front_within (test unit) vectors

  -- the owner of a segment that is no argument segment is its own unit
  one_owner : (segment unit owner : ℕ) → IsOwn g unit segment → (IsArgument g segment → ⊥) → Owns g owner segment
      → owner ≡ unit
  one_owner segment unit owner own plain owns =
      let same : owns.own ≡ unit = cc (owns.own_is, own) in
      elim owns.owner [ inl is_own ↦ is_own ∙ same | inr calls ↦ absurd (plain calls.0) ]

  related : (s t v w : ℕ) → IsOwn g v s → IsOwn g w t → (IsArgument g s → ⊥) → (IsArgument g t → ⊥)
      → SegmentsConflict g s t → AreRelated (joined_graph g) v w
  related s t v w own own' plain plain' (FirstPlain lone) = absurd (lone (v, own))
  related s t v w own own' plain plain' (SecondPlain lone) = absurd (lone (w, own'))
  related s t v w own own' plain plain' (Owners one two o o' r) =
      rw (← one_owner s v one own plain o, ← one_owner t w two own' plain' o') r

  -- under one root
  under_one : (s t v w : ℕ) → IsOwn g v s → IsOwn g w t → root_number g v ≡ root_number g w → root_number g v < 7
      → level_of g.edges v ≤ level_of g.edges w → AreRelated (joined_graph g) v w → Precedes g v w
  under_one s t v w own own' same below levels r =
      let x : ℕ = get_or vectors (root_number g v) 0 in
      let first : UnitLiesUnder g x v = root_above v below in
      let second : UnitLiesUnder g x w =
      subst (λ k. UnitLiesUnder g (get_or vectors k 0) w) (sym same) (root_above w (omega (arith, same, below))) in
      let owns : Owns g v s = record { own = v; own_is = own; owner = inl refl } in
      let owns' : Owns g w t = record { own = w; own_is = own'; owner = inl refl } in
      elim r [
        | Same e ↦ SameUnit e
        | Before reach ↦ Leads same reach
        | After reach ↦ absurd (omega (arith, levels, reach_rises g.edges short w v reach))
        | FirstUnderNone none ↦ absurd (none x first)
        | SecondUnderNone none ↦ absurd (none x second)
        | UnderTwo a b differ h h' ↦ absurd
            (differ (is.one_root s v a x owns h first ∙ sym (is.one_root t w b x owns' h' second)))
      ]

  pub precedes : (t u : Ranked) (a : IsLocalOne g t) (b : IsLocalOne g u) → Earlier t u
      → in_conflict g t.number u.number ≡ true → Precedes g a.unit b.unit
  precedes t u a b earlier conflict =
      let v : ℕ = a.unit in
      let w : ℕ = b.unit in
      let rise = ranks t u v w a.local b.local earlier in
      let r = related t.number u.number v w a.local.own b.local.own a.no_argument b.no_argument
      ((segments_tell g is.units t.number u.number).0
      (and_parts (not (nat_eq t.number u.number))
      (are_owners_related g (owners_at g t.number) (owners_at g u.number)) conflict).1) in
      elim (cases_lt (root_number g v) (root_number g w)) [
        | inl less ↦ EarlierRoot less
        | inr not_less ↦
            let same : root_number g v ≡ root_number g w = omega (arith, not_less, rise.roots) in
            elim (cases_lt (root_number g v) 7) [
              | inl below ↦ under_one t.number u.number v w a.local.own b.local.own same below (rise.levels same) r
              | inr end ↦ UnderNone (omega (arith, end, few_roots v)) (omega (arith, end, same, few_roots v))
            ]
      ]

-- The order, split at its first overlaid segment, and the part before that.

-- the segments from the first overlaid one on
abbrev pub from_overlaid : List Ranked → List Ranked
from_overlaid [] = []
from_overlaid (t ∷ more) = cond (is_some t.own) (t ∷ more) (from_overlaid more)

pub split : (order : List Ranked) → order ≡ before_overlaid order ++ from_overlaid order
split [] = refl
split (t ∷ more) = grind (arith, split more)

-- those before it are plain
pub lone_before : (g : GraphParts) (controls : List (ℕ × Control)) (segments : List JoinedSegment)
    (order : List Ranked) → Every (IsRankedOf g controls segments) order → Every (IsPlain g) (before_overlaid order)
lone_before g controls segments [] h = tt
lone_before g controls segments (t ∷ more) h = elim (cases_Bool (is_some t.own)) [
  | inl own ↦ rw own tt
  | inr none ↦
      let bare : t.own ≡ None = grind (arith, none) in
      rw none (sym h.0.own ∙ bare, lone_before g controls segments more h.1)
]

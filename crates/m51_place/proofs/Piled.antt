-- How high overlaid DATA is piled, and that each segment has a base where the run is long enough.
use Rattle.m51_place.proofs
use proofs.Common.{IsHeaviestWalk, JoinedSegment, Numbered, ProgramGraph, append_assoc, in_conflict_with, option_map_or}
use proofs.Common.{ChainsFrom, and_parts, conflicting, is_absolute, place_after, ranked_from, root_number, with_numbers}
use proofs.Common.{GraphParts, append-nil, at_number, base_for, cases_Bool, extent_of, located_at, nat_tests, slice_get}
use proofs.Common.{Bool, Control, IsGraph, Reaches, cases_eq, cases_lt, last_of, ltb-true, order_of, sum_along, vectors}
use proofs.Common.{Covers, Direct, IsFree, IsWalk, List, Option, Ranked, eq-eqb, get_or, length, nat_eq, nat_lt, own_at}
use proofs.Common.{Chain, Edges, Err, IsOwn, None, Pairs, Some, arith, cond, inl, refl, subst, true, zero, ◌&&◌, ◌++◌}
use proofs.Common.{In, Ok, [], ap, inr, suc, sym, ℕ, ◌*◌, ◌+◌, ◌/◌, ◌<◌, ◌∙◌, ◌∷◌, ◌≡◌, ◌≤◌}
use Rattle.m51_cells.proofs.Members.{Every, every_append, every_in, every_of, every_weaker, total-append, total_moved}
use Rattle.m51_cells.proofs.Members.{in_cases, total}
use Rattle.m51_graph.specs.Graph.{IsRootAt}
use Rattle.m51_place.specs.Conflicts.{in_conflict}
use Rattle.m51_place.specs.Overlay.{AreOneRun, bytes_joined, overlaid_in}
use proofs.Conflicting.{own_read}
use proofs.Free.{Answer, AreAfter, AtLow, IsSeated, base_cases, free_at, later_total, least_is_least, open_out, seated}
use proofs.Free.{IsOut, OnTop, ram}
use proofs.Ordered.{EarlierRoot, IsLocalOne, Leads, Precedes, SameUnit, UnderNone, few_roots, precedes, root_above}
use proofs.Ranks.{Earlier, IsRankedOf, order_moves}
use proofs.Weights.{Local, along_total, bytes, is_data}

-- The bytes of overlaid DATA in what is placed, in an order and among joined segments are one number.

-- the own unit of an extent, if it is overlaid
abbrev pub own_of : GraphParts → Numbered → Option ℕ
own_of g e = option_map_or (own_at g) e.number None

abbrev pub local_at : GraphParts → Numbered → Local
local_at g e = record { base = e.placed.base; size = cond (is_data e.placed) e.placed.size 0; own = own_of g e }

-- its bytes, where its own unit passes a test; those of a ranked segment, wherever it is placed
abbrev pub placed_bytes : GraphParts → (ℕ → Bool) → Numbered → ℕ
placed_bytes g test e = bytes test (local_at g e)

abbrev pub ranked_bytes : GraphParts → (ℕ → Bool) → Ranked → ℕ
ranked_bytes g test t = placed_bytes g test (located_at t 0)

module _ (g : GraphParts) (test : ℕ → Bool) where
  bare_sum : (es : List Numbered) → Every (λ e. own_of g e ≡ None) es → total (placed_bytes g test) es ≡ 0
  bare_sum [] h = refl
  bare_sum (e ∷ es) h = rw h.0 (omega (arith, bare_sum es h.1))

  -- what is placed after extents that are not overlaid has the bytes of its order
  pub located_sum : {front located : List Numbered} {order : List Ranked} → Every (λ e. own_of g e ≡ None) front
      → AreAfter g front order located → total (placed_bytes g test) located ≡ total (ranked_bytes g test) order
  located_sum {front} bare after =
      omega (arith, later_total after (placed_bytes g test) (ranked_bytes g test) (λ _ _. refl), bare_sum front bare)

  module _ (segments : List JoinedSegment) (controls : List (ℕ × Control))
      (bare : (n : ℕ) (j : JoinedSegment) → slice_get segments n ≡ Some j → is_absolute j.reloc ≡ true → own_at g n
      ≡ None) where
    joined_sum : (number : ℕ) (rest : List JoinedSegment)
        → Every (λ (p : ℕ × JoinedSegment). is_absolute p.1.reloc ≡ true → own_at g p.0 ≡ None)
        (with_numbers number rest)
        → total (ranked_bytes g test) (ranked_from g controls number rest) ≡ bytes_joined g test number rest
    joined_sum number [] plain = refl
    joined_sum number (j ∷ more) plain =
        grind (arith, joined_sum (number + 1) more plain.1, plain.0)

    -- the overlaid segments of an order have all the bytes that count
    overlaid_sum : (order : List Ranked) → Every (IsRankedOf g controls segments) order
        → total (ranked_bytes g test) (overlaid_in order) ≡ total (ranked_bytes g test) order
    overlaid_sum [] h = refl
    overlaid_sum (t ∷ more) h =
        let own : t.own ≡ own_at g t.number = h.0.own in grind (arith, overlaid_sum more h.1, own)

    pub order_all : total (ranked_bytes g test) (order_of g controls segments) ≡ bytes_joined g test 0 segments
    order_all = sym (total_moved (ranked_bytes g test) _ _ (order_moves g controls segments))
        ∙ joined_sum 0 segments (every_of _ _ (λ p i. bare p.0 p.1 (at_number segments p i)))

    pub order_sum : Every (IsRankedOf g controls segments) (order_of g controls segments)
        → total (ranked_bytes g test) (overlaid_in (order_of g controls segments)) ≡ bytes_joined g test 0 segments
    order_sum ranked = overlaid_sum (order_of g controls segments) ranked ∙ order_all

-- How high overlaid DATA is piled: no segment ends above the heaviest walks of the roots before its own, a walk to its
-- unit, and the segments of that unit that lie below it.

-- a walk that is followed by another
joined_walk : (edges : Edges) (u : ℕ) (more later : List ℕ) → IsWalk edges u more → IsWalk edges (last_of u more) later
    → IsWalk edges u (more ++ later)
joined_walk edges u [] later walk on = on
joined_walk edges u (v ∷ more) later walk on = (walk.0, joined_walk edges v more later walk.1 on)

joined_end : (u : ℕ) (more later : List ℕ) → last_of u (more ++ later) ≡ last_of (last_of u more) later
joined_end u [] later = refl
joined_end u (v ∷ more) later = joined_end v more later

-- the last unit of a list weighs no more than the list
last_weighs : (w : ℕ → ℕ) (v : ℕ) (more : List ℕ) → w (last_of v more) ≤ total w (v ∷ more)
last_weighs w v [] = omega arith
last_weighs w v (x ∷ more) = omega (arith, last_weighs w x more)

-- the sum of what the first roots add
abbrev pub below : (ℕ → ℕ) → ℕ → ℕ
below adds zero = 0
below adds (suc k) = adds k + below adds k

-- What overlaid segments are placed over: a graph and the weights of its units, the run that the extents before them
-- leave open, a height for each root, and which units lie under none.
pub record Scene : Type 0 where
  pub g : GraphParts
  pub kept : IsGraph g
  pub w : ℕ → ℕ
  pub adds : ℕ → ℕ
  pub holds : (k root : ℕ) (more : List ℕ) → k < 7 → IsRootAt g (get_or vectors k 0) root → IsWalk g.edges root more
      → sum_along w (root ∷ more) ≤ adds k
  pub free : ℕ → Bool
  pub is_free : (unit : ℕ) → root_number g unit ≡ 7 → free unit ≡ true
  pub low : ℕ
  pub high : ℕ
  pub front : List Numbered
  pub run : AreOneRun front low high
  pub plain : Every (λ e. own_of g e ≡ None) front

module _ (s : Scene) where
  abbrev number : ℕ → ℕ
  number unit = root_number s.g unit

  -- the height of the first roots
  abbrev pub top : ℕ → ℕ
  top k = below s.adds k

  -- a walk from the root above the unit to it, on which the units before it weigh at least `before`
  record IsWalked (unit before : ℕ) : Type 0 where
    root : ℕ
    more : List ℕ
    is_root : IsRootAt s.g (get_or vectors (number unit) 0) root
    walk : IsWalk s.g.edges root more
    ends : last_of root more ≡ unit
    weighs : before + s.w unit ≤ total s.w (root ∷ more)

  abbrev pub sum : (ℕ → Bool) → List Numbered → ℕ
  sum test es = total (placed_bytes s.g test) es

  -- how high a segment of the unit ends: above a walk to the unit and what is placed of it, or, under no root, above
  -- all roots and what is placed under none
  pub record IsHigh (done : List Numbered) (unit end : ℕ) : Type 0 where
    under : number unit < 7 → (before : ℕ) × IsWalked unit before
        × (end ≤ s.low + top (number unit) + before + sum (nat_eq unit) done)
    bare : number unit ≡ 7 → end ≤ s.low + top 7 + sum s.free done

  -- heights rise from root to root
  tops_to : (k n : ℕ) → k ≤ n → top k ≤ top n
  tops_to k zero h = let none : k ≡ 0 = omega (arith, h) in rw none (omega arith)
  tops_to k (suc n) h = elim (cases_eq k (suc n)) [
    | inl same ↦ rw same (omega arith)
    | inr ne ↦ omega (arith, tops_to k n (omega (arith, h, ne)))
  ]

  -- a walk to a unit that lies under a root
  first_walk : (unit : ℕ) → number unit < 7 → IsWalked unit 0
  first_walk unit below =
      let lies = root_above s.g s.kept unit below in
      elim lies.leads [
        | inl same ↦ record {
          root = lies.root;
          more = [];
          is_root = lies.is_root;
          walk = tt;
          ends = same;
          weighs = omega (arith, ap s.w same);
        }
        | inr reach ↦ record {
          root = lies.root;
          more = reach.next ∷ reach.more;
          is_root = lies.is_root;
          walk = reach.walk;
          ends = reach.ends;
          weighs = omega (arith, last_weighs s.w reach.next reach.more, ap s.w reach.ends);
        }
      ]

  -- the walk continues to a unit that is reached
  walk_on : (u v before : ℕ) → number u ≡ number v → Reaches s.g.edges u v → IsWalked u before
      → IsWalked v (before + s.w u)
  walk_on u v before same reach h =
      let later : List ℕ = reach.next ∷ reach.more in
      record {
        root = h.root;
        more = h.more ++ later;
        is_root = subst (λ k. IsRootAt s.g (get_or vectors k 0) h.root) same h.is_root;
        walk = joined_walk s.g.edges h.root h.more later h.walk (rw h.ends reach.walk);
        ends = joined_end h.root h.more later ∙ ap (λ (x : ℕ). last_of x later) h.ends ∙ reach.ends;
        weighs = omega (
          arith,
          total-append s.w (h.root ∷ h.more) later,
          h.weighs,
          last_weighs s.w reach.next reach.more,
          ap s.w reach.ends,
        );
      }

  -- no segment of a unit under a root ends above the next root's height
  under_next : (done : List Numbered) (unit end : ℕ) → number unit < 7 → sum (nat_eq unit) done ≤ s.w unit
      → IsHigh done unit end → end ≤ s.low + top (suc (number unit))
  under_next done unit end below most h =
      let u = h.under below in
      let walk = u.1 in
      omega (
        arith,
        u.2,
        most,
        walk.weighs,
        along_total s.w (walk.root ∷ walk.more),
        s.holds (number unit) walk.root walk.more below walk.is_root walk.walk,
      )

  -- so none ends above all roots and the segments under none
  pub under_all : (done : List Numbered) (unit end : ℕ) → sum (nat_eq unit) done ≤ s.w unit → IsHigh done unit end
      → end ≤ s.low + top 7 + sum s.free done
  under_all done unit end most h = elim (cases_lt (number unit) 7) [
    | inl below ↦ omega (arith, under_next done unit end below most h, tops_to (suc (number unit)) 7 below)
    | inr above ↦ h.bare (omega (arith, above, few_roots s.g s.kept unit))
  ]

  pub still_high : (done later : List Numbered) (unit end : ℕ) → IsHigh done unit end → IsHigh (done ++ later) unit end
  still_high done later unit end h = record {
    under = λ below. let u = h.under below in
        (u.0, u.1, omega (arith, u.2, total-append (placed_bytes s.g (nat_eq unit)) done later));
    bare = λ seven. omega (arith, h.bare seven, total-append (placed_bytes s.g s.free) done later);
  }

  -- with one more segment of the unit
  module _ (done : List Numbered) (e : Numbered) (unit : ℕ) (own_is : own_of s.g e ≡ Some unit)
      (data_is : is_data e.placed ≡ true) where
    abbrev size : ℕ
    size = e.placed.size

    abbrev more : List Numbered
    more = done ++ e ∷ []

    pushed : (test : ℕ → Bool) → test unit ≡ true → sum test more ≡ sum test done + size
    pushed test is =
        let here : placed_bytes s.g test e ≡ size = rw (own_is, data_is, is) in
        omega (arith, total-append (placed_bytes s.g test) done (e ∷ []), here)

    -- where it begins no higher than a segment of its unit may end
    on_same : (base : ℕ) → IsHigh done unit base → IsHigh more unit (base + size)
    on_same base h = record {
      under = λ below. let u = h.under below in
          (u.0, u.1, omega (arith, u.2, pushed (nat_eq unit) (eq-eqb unit unit refl)));
      bare = λ seven. omega (arith, h.bare seven, pushed s.free (s.is_free unit seven));
    }

    -- where it begins no higher than the roots before its own
    pub fresh : (base : ℕ) → base ≤ s.low + top (number unit) → IsHigh more unit (base + size)
    fresh base h = on_same base (record {
      under = λ below. (0, first_walk unit below, omega (arith, h));
      bare = λ seven. omega (arith, h, ap top seven);
    })

    on_caller : (base u : ℕ) → number u ≡ number unit → Reaches s.g.edges u unit → sum (nat_eq u) done ≤ s.w u
        → IsHigh done u base → IsHigh more unit (base + size)
    on_caller base u same reach most h = on_same base (record {
      under = λ below. let v = h.under (omega (arith, same, below)) in
          (v.0 + s.w u, walk_on u unit v.0 same reach v.1, omega (arith, v.2, most, ap top same));
      bare = λ seven. h.bare (omega (arith, same, seven));
    })

    -- where it begins at the end of an earlier one in conflict
    pub on_top : (base u : ℕ) → sum (nat_eq u) done ≤ s.w u → Precedes s.g u unit → IsHigh done u base
        → IsHigh more unit (base + size)
    on_top base u most (EarlierRoot less) h =
        fresh base (omega (
          arith,
          under_next done u base (omega (arith, less, few_roots s.g s.kept unit)) most h,
          tops_to (suc (number u)) (number unit) less,
        ))
    on_top base u most (SameUnit same) h = on_same base (rw same at h)
    on_top base u most (Leads same reach) h = on_caller base u same reach most h
    on_top base u most (UnderNone end end') h =
        on_same base (record { under = λ below. absurd (omega (arith, below, end')); bare = λ _. h.bare end })

-- Overlaid DATA in its order, each segment on the run or on earlier ones: none ends too high, and each has a base where
-- the run is long enough.

-- an extent that is not overlaid is in conflict with each overlaid segment
against_none : (g : GraphParts) (number unit : ℕ) (other : Option ℕ) → own_at g number ≡ Some unit
    → option_map_or (own_at g) other None ≡ None
    → option_map_or (λ n. in_conflict g n number) other true ≡ true
against_none g number unit other own plain = grind (arith, nat_tests)

pub against_plain : (g : GraphParts) (number unit : ℕ) (e : Numbered) → IsOwn g unit number → own_of g e ≡ None
    → in_conflict_with g number e ≡ true
against_plain g number unit e own plain = against_none g number unit e.number (own_read g number unit own) plain

module _ (g : GraphParts) (done : List Numbered) (t : Ranked) (low : ℕ) where
  abbrev Clears : ℕ → Numbered → Type 0
  Clears base e = in_conflict_with g t.number e ≡ true → 0 < e.placed.size → e.placed.base + e.placed.size ≤ base

  -- the highest end of those in conflict, or the low end of the run
  record IsPeak (xs : List Numbered) (base : ℕ) : Type 0 where
    seat : IsSeated g done t low base
    above : low ≤ base
    clears : Every (Clears base) xs

  peak : (xs : List Numbered) → Every (λ e. In e done) xs → (base : ℕ) × IsPeak xs base
  peak [] inside = (low, record { seat = AtLow refl; above = omega arith; clears = tt })
  peak (x ∷ xs) inside =
      let rest = peak xs inside.1 in
      let some : Bool = nat_lt 0 x.placed.size in
      let end : ℕ = x.placed.base + x.placed.size in
      elim (cases_Bool (in_conflict_with g t.number x && (some && nat_lt rest.0 end))) [
        | inr lower ↦
            let clear : Clears rest.0 x = λ is more. grind (arith, nat_tests, lower) in
            (rest.0, record { seat = rest.1.seat; above = rest.1.above; clears = (clear, rest.1.clears) })
        | inl higher ↦
            let of = and_parts _ _ higher in
            let above : rest.0 < end = ltb-true rest.0 end (and_parts some _ of.1).1 in (
              end,
              record {
                seat = OnTop x inside.0 of.0 (ltb-true 0 x.placed.size (and_parts some _ of.1).0) refl;
                above = omega (arith, rest.1.above, above);
                clears = (
                  λ _ _. omega arith,
                  every_weaker (Clears rest.0) (Clears end) xs
                      (λ e h is some. let low_end = h is some in omega (arith, low_end, above)) rest.1.clears,
                );
              },
            )
      ]

module _ (s : Scene) where
  -- an overlaid segment that is placed
  pub record IsLaid (done : List Numbered) (next : List Ranked) (e : Numbered) : Type 0 where
    pub t : Ranked
    pub one : IsLocalOne s.g t
    pub base : ℕ
    pub is : e ≡ located_at t base
    pub before : Every (Earlier t) next
    pub from : 0 < t.segment.size → s.low ≤ base
    pub till : 0 < t.segment.size → base + t.segment.size ≤ s.high
    pub ends : 0 < t.segment.size → IsHigh s done one.unit (base + t.segment.size)

  -- the bytes of overlaid segments that are placed, and of those to come
  pub record HasRoom (done : List Numbered) (next : List Ranked) (unrooted : ℕ) : Type 0 where
    pub units : (u : ℕ) → sum s (nat_eq u) done + total (ranked_bytes s.g (nat_eq u)) next ≤ s.w u
    pub others : sum s s.free done + total (ranked_bytes s.g s.free) next ≤ unrooted

  -- one more segment
  module _ (done : List Numbered) (t : Ranked) (next : List Ranked) (unrooted : ℕ) (one : IsLocalOne s.g t)
      (before : Every (Earlier t) next) (laid : Every (IsLaid done (t ∷ next)) done)
      (has : HasRoom done (t ∷ next) unrooted) where
    abbrev len : ℕ
    len = t.segment.size

    against : Every (λ e. in_conflict_with s.g t.number e ≡ true) s.front
    against = every_weaker _ _ s.front (λ e. against_plain s.g t.number one.unit e one.local.own) s.plain

    direct : Every (λ e. e.placed.kind ≡ Direct) done
    direct = every_weaker _ _ done
        (λ e h. ap (λ (x : Numbered). x.placed.kind) h.is ∙ h.one.local.kind) laid

    ends_at : (base : ℕ) → IsSeated s.g done t s.low base → IsHigh s (done ++ located_at t base ∷ []) one.unit
        (base + len)
    ends_at base seat =
        let e : Numbered = located_at t base in
        let own = own_read s.g t.number one.unit one.local.own in
        let data_is : is_data e.placed ≡ true = rw (one.local.kind, one.local.reloc, one.own_is) in
        elim seat [
          | AtLow same ↦ fresh s done e one.unit own data_is base (omega (arith, same))
          | OnTop x there conflict some end ↦
              let below = every_in _ done x laid there in
              let size_is = ap (λ (y : Numbered). y.placed.size) below.is in
              let end_is : below.base + below.t.segment.size ≡ base =
              omega (arith, ap (λ (y : Numbered). y.placed.base + y.placed.size) below.is, end) in
              on_top s done e one.unit own data_is base below.one.unit (omega (arith, has.units below.one.unit))
              (precedes s.g s.kept below.t t below.one one below.before.0 (rw below.is at conflict))
              (rw end_is at (below.ends (omega (arith, size_is, some))))
        ]

    room_after : (base : ℕ) → HasRoom (done ++ located_at t base ∷ []) next unrooted
    room_after base = record {
      units = λ u. omega
          (arith, has.units u, total-append (placed_bytes s.g (nat_eq u)) done (located_at t base ∷ []));
      others = omega (arith, has.others, total-append (placed_bytes s.g s.free) done (located_at t base ∷ []));
    }

    laid_after : (base : ℕ) → base_for s.g (s.front ++ done) t ≡ Some base
        → Every (IsLaid (done ++ located_at t base ∷ []) next) (done ++ located_at t base ∷ [])
    laid_after base is =
        let e : Numbered = located_at t base in
        let on = λ (some : 0 < len). seated s.g s.front done t s.low s.high base s.run against direct one.local.kind
        one.local.reloc some is in
        every_append (IsLaid (done ++ e ∷ []) next) done (e ∷ [])
        (every_weaker (IsLaid done (t ∷ next)) _ done (λ x h. record {
          t = h.t;
          one = h.one;
          base = h.base;
          is = h.is;
          before = h.before.1;
          from = h.from;
          till = h.till;
          ends = λ some. still_high s done (e ∷ []) h.one.unit _ (h.ends some);
        }) laid) (
          record {
            t = t;
            one = one;
            base = base;
            is = refl;
            before = before;
            from = λ some. (on some).0;
            till = λ some. (on some).1;
            ends = λ some. ends_at base (on some).2;
          },
          tt,
        )

    -- an extent placed before the overlaid segments covers no byte of the run
    front_out : (base : ℕ) → s.low ≤ base → base + len ≤ s.high → (e : Numbered) → In e s.front
        → IsOut base len e.placed
    front_out base above ends e there at from below =
        let byte : ℕ = at / 8 in
        let lower : 8 * byte ≤ at = omega arith in
        let upper : at < 8 * (byte + 1) = omega arith in
        let till : byte < s.high = omega (arith, lower, below, ends) in
        let clear = (s.run.are byte (omega (arith, till, s.run.most))).1 (omega (arith, above, from, upper), till) in
        every_in _ s.front e (open_out s.front byte clear) there at lower upper

    -- nor does an earlier segment in conflict that ends below
    done_out : (base : ℕ) (e : Numbered) → In e done → (0 < e.placed.size → e.placed.base + e.placed.size ≤ base)
        → IsOut base len e.placed
    done_out base e there ends at from below covers =
        let kind = every_in _ done e direct there in
        let of = subst (λ k. Covers (extent_of k e.placed.base e.placed.size) (ram at)) kind covers in
        let lower : 8 * e.placed.base ≤ at = of.from in
        let upper : at < 8 * e.placed.base + 8 * e.placed.size = of.below in
        let end = ends (omega (arith, lower, upper)) in
        omega (arith, upper, from, end)

    -- there is a base where the run is long enough
    some_base : s.low + top s 7 + unrooted ≤ s.high → (base : ℕ)
        × IsFree (conflicting s.g t.number (s.front ++ done)) t.segment.kind t.segment.reloc len base
    some_base room = elim (cases_lt 0 len) [
      | inr none ↦ (
        0,
        free_at s.g t (s.front ++ done) 0 one.local.kind one.local.reloc (omega (arith, none))
            (λ e there conflict at from below covers. omega (arith, none, below)),
      )
      | inl some ↦
          let h = peak s.g done t s.low done (every_of _ done (λ e there. there)) in
          let after = room_after h.0 in
          let high = under_all s (done ++ located_at t h.0 ∷ []) one.unit (h.0 + len)
          (omega (arith, after.units one.unit)) (ends_at h.0 h.1.seat) in
          let ends : h.0 + len ≤ s.high = omega (arith, high, after.others, room) in (
            h.0,
            free_at s.g t (s.front ++ done) h.0 one.local.kind one.local.reloc (omega (arith, ends, s.run.most))
                (λ e there conflict. elim (in_cases s.front done e there) [
                  | inl in_front ↦ front_out h.0 h.1.above ends e in_front
                  | inr in_done ↦ done_out h.0 e in_done (every_in _ done e h.1.clears in_done conflict)
                ]),
          )
    ]

    no_base : base_for s.g (s.front ++ done) t ≡ None → s.high < s.low + top s 7 + unrooted
    no_base none = elim (cases_lt s.high (s.low + top s 7 + unrooted)) [
      | inl less ↦ less
      | inr room ↦
          let j = t.segment in
          let free = some_base room in
          let lacks = rw none at
          (least_is_least (conflicting s.g t.number (s.front ++ done)) j.kind j.reloc j.size) in
          absurd (lacks free.0 free.1)
    ]

  -- What placing overlaid segments answers: all are laid, or the run is too short.
  pub record AreLaid (unrooted : ℕ) (located : List Numbered) : Type 0 where
    pub done : List Numbered
    pub are : located ≡ s.front ++ done
    pub laid : Every (IsLaid done []) done
    pub room : HasRoom done [] unrooted

  abbrev pub Piles : ℕ → Answer → Type 0
  Piles unrooted (Ok located) = AreLaid unrooted located
  Piles unrooted (Err refusal) = s.high < s.low + top s 7 + unrooted

  piled : (next : List Ranked) (done : List Numbered) (unrooted : ℕ) → Every (IsLocalOne s.g) next → Pairs Earlier next
      → Every (IsLaid done next) done → HasRoom done next unrooted
      → Piles unrooted (place_after s.g (s.front ++ done) next)
  piled [] done unrooted ones rising laid has =
      record { done = done; are = refl; laid = laid; room = has }
  piled (t ∷ more) done unrooted ones rising laid has = elim (base_cases (base_for s.g (s.front ++ done) t)) [
    | inl none ↦ rw none (no_base done t more unrooted ones.0 rising.0 laid has none)
    | inr some ↦ rw (some.1, append_assoc)
        (piled more (done ++ located_at t some.0 ∷ []) unrooted ones.1 rising.1
        (laid_after done t more unrooted ones.0 rising.0 laid has some.0 some.1)
        (room_after done t more unrooted ones.0 rising.0 laid has some.0))
  ]

  pub piles : (next : List Ranked) (unrooted : ℕ) → Every (IsLocalOne s.g) next → Pairs Earlier next
      → ((u : ℕ) → total (ranked_bytes s.g (nat_eq u)) next ≤ s.w u)
      → total (ranked_bytes s.g s.free) next ≤ unrooted → Piles unrooted (place_after s.g s.front next)
  piles next unrooted ones rising units others =
      rw append-nil at (piled next [] unrooted ones rising tt
      (record { units = λ u. omega (arith, units u); others = omega (arith, others) }))

-- How high the segments of each root may reach: by the heaviest walks of the roots before it and its own.

-- what each root adds to the height of those before it: there is room for each of its walks
pub record AreTops (p : ProgramGraph) (w : ℕ → ℕ) (at : List ℕ) (sum : ℕ) : Type 0 where
  pub adds : ℕ → ℕ
  pub holds : (k root : ℕ) (more : List ℕ) → k < length at → p.IsRoot (get_or at k 0) root → IsWalk p.edges root more
      → sum_along w (root ∷ more) ≤ adds k
  pub last : below adds (length at) ≡ sum

-- what the first root adds, and then the others after it
abbrev and_others : ℕ → (ℕ → ℕ) → ℕ → ℕ
and_others first adds zero = first
and_others first adds (suc k) = adds k

below_others : (first : ℕ) (adds : ℕ → ℕ) (k : ℕ) → below (and_others first adds) (suc k) ≡ first + below adds k
below_others first adds zero = omega arith
below_others first adds (suc k) = omega (arith, below_others first adds k)

-- each vector has at most one root
module _ (p : ProgramGraph) (w : ℕ → ℕ) (one_root : (v a b : ℕ) → p.IsRoot v a → p.IsRoot v b → a ≡ b) where
  joined : (v : ℕ) (more : List ℕ) (first sum : ℕ)
      → ((root : ℕ) (walk : List ℕ) → p.IsRoot v root → IsWalk p.edges root walk → sum_along w (root ∷ walk) ≤ first)
      → AreTops p w more sum → AreTops p w (v ∷ more) (first + sum)
  joined v more first sum fits rest = record {
    adds = and_others first rest.adds;
    holds = holds;
    last = omega (arith, below_others first rest.adds (length more), rest.last);
  } where
    holds : (k root : ℕ) (walk : List ℕ) → k < length (v ∷ more) → p.IsRoot (get_or (v ∷ more) k 0) root
        → IsWalk p.edges root walk → sum_along w (root ∷ walk) ≤ and_others first rest.adds k
    holds zero root walk inside is_root is_walk = fits root walk is_root is_walk
    holds (suc k) root walk inside is_root is_walk = rest.holds k root walk (omega (arith, inside)) is_root is_walk

  -- a heaviest chain is as heavy as any walk of its root
  as_heavy : (v : ℕ) (c : Chain) → p.IsRoot v c.root → IsHeaviestWalk p.edges w c → (root : ℕ) (walk : List ℕ)
      → p.IsRoot v root → IsWalk p.edges root walk → sum_along w (root ∷ walk) ≤ c.bytes
  as_heavy v c is_root heavy root walk other is_walk =
      let same : root ≡ c.root = one_root v root c.root other is_root in
      let most = heavy.most walk (subst (λ r. IsWalk p.edges r walk) same is_walk) in
      rw same (elim most [ inl less ↦ omega (arith, less) | inr weight ↦ omega (arith, weight.0) ])

  pub tops : (at : List ℕ) (chains : List Chain) → ChainsFrom p w at chains
      → AreTops p w at (total (λ (c : Chain). c.bytes) chains)
  tops [] [] h = record {
    adds = λ k. 0;
    holds = λ k root more inside. absurd (omega (arith, inside));
    last = refl;
  }
  tops [] (c ∷ chains) h = absurd h
  tops (v ∷ more) [] h = joined v more 0 0 (λ root walk is_root. absurd (h.0 root is_root)) (tops more [] h.1)
  tops (v ∷ more) (c ∷ chains) (inl h) =
      let sum : ℕ = total (λ (x : Chain). x.bytes) (c ∷ chains) in
      let none : 0 + sum ≡ sum = omega arith in
      subst (AreTops p w (v ∷ more)) none
      (joined v more 0 sum (λ root walk is_root. absurd (h.0 root is_root)) (tops more (c ∷ chains) h.1))
  tops (v ∷ more) (c ∷ chains) (inr h) =
      joined v more c.bytes (total (λ (x : Chain). x.bytes) chains) (as_heavy v c h.0 h.1) (tops more chains h.2)

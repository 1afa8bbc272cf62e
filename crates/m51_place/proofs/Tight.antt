-- The weight of a graph and of its layouts, and how few bytes placing covers.
use Rattle.m51_place.proofs
use Rattle.m51_place.specs
use proofs.Common.{Any-from_list_any, HaveSameUnits, IsHeaviestWalk, is_overlaid_data, parts_of_layout, second_sort_key}
use proofs.Common.{AreRelated, JoinedSegment, ProgramGraph, class_number, first_sort_key, option_map_or, shared_extents}
use proofs.Common.{In, comes_before, group_number, joined_graph, layout_graph, placing_from, placing_with, with_numbers}
use proofs.Common.{AreResolved, ChainsFrom, GraphParts, LayoutParts, located_at, place_after, segments_of, under_there}
use proofs.Common.{LiesUnder, and_parts, at_number, before_by, located_of, nat_tests, none-some, owners_of, tally_mono}
use proofs.Common.{Direct, Numbered, Overlaid, UnitType, list_any, pairs_at, pairs_got, same_back, slice_get, weight_of}
use proofs.Common.{IsGraph, Option, Owners, Placed, Ranked, Refusal, Result, is_some, nat_eq, nat_lt, own_at, vectors}
use proofs.Common.{Bool, Chain, Kind, List, Mark, None, Pairs, Rank, Reloc, Some, arith, cond, refl, subst, true, ◌++◌}
use proofs.Common.{Err, Ok, [], ap, inl, inr, map, min, sym, ℕ, ◌+◌, ◌-◌, ◌<◌, ◌↔◌, ◌∙◌, ◌∷◌, ◌≡◌, ◌≢◌, ◌≤◌}
use Rattle.m51_cells.proofs.Members.{every_append, every_map, every_weaker, in_contains, pairs_both, pairs_filter}
use Rattle.m51_cells.proofs.Members.{every_in, every_of, got_in, in_cases, in_filter, pairs_map, total_map, total_sum}
use Rattle.m51_cells.proofs.Members.{Every, in_map, total}
use specs.Bound.{IsWeight, bytes_passing, count_below, covered_bytes, covers_byte, overlaid_bytes, overlays_byte}
use specs.Conflicts.{owners_at}
use specs.Overlay.{FigureIsWeight, FindsRun, OverlaysData, PlacingIsTight, WeightsAgree, before_overlaid, bytes_joined}
use specs.Overlay.{IsWeightOf, overlaid_in, unit_weight}
use specs.declared.placing.Placing.{Placing}
use proofs.Conflicting.{conflict_tells, own_is}
use proofs.Free.{AreAfter, KeepApart, are_after, at_base, both_ok, conflicts, later_every, pick_at, place_append}
use proofs.Free.{pick_in}
use proofs.Ordered.{AreParts, IsPlain, lone_before, no_root, order_parts}
use proofs.Piled.{AreLaid, AreTops, IsLaid, Piles, local_at, located_sum, order_all, order_sum, ranked_bytes, under_all}
use proofs.Piled.{Scene, own_of, piles, top, tops}
use proofs.Ranks.{Earlier, IsRankedOf, Program, order, order_rises, program, ranked, segments, shape}
use proofs.SoundLayout.{one_root_each, owners_are, same_units, sound}
use proofs.Weights.{AreLocals, IsLocal, KeptApart, first_of_list, has_byte_tells, passing_is, tally_range, weight_bound}
use proofs.Weights.{Local, bytes, count_is, data_byte, data_kind, has_byte, is_data, least, local_of, locals, weight_is}
use proofs.Whole.{IsSpot, IsWhole, bare_absolute, fixed_bare, fixed_pairs, overlaid_at, placed_whole, unless_none}
use proofs.Whole.{fixed}

-- Placing valid modules over their graph, as far as the overlaid segments: what they are placed over, and what that
-- answers.

-- ranked segments of one number are one, which does not come before itself
all_same : (a b c d n : ℕ) → before_by a a (before_by b b (before_by c c (before_by d d (nat_lt n n)))) ≡ true → ⊥
all_same a b c d n h = grind (arith, nat_tests)

not_before : (r : Rank) → comes_before r r ≡ true → ⊥
not_before r h =
    all_same (class_number r.class) (group_number r.group) (first_sort_key r.group) (second_sort_key r.group) r.number h

differ : (c : Program) (t u : Ranked) → IsRankedOf c.g c.controls (segments c) t
    → IsRankedOf c.g c.controls (segments c) u → Earlier t u → t.number ≢ u.number
differ c t u a b earlier same =
    let segment : t.segment ≡ u.segment = cc (a.segment, b.segment, same) in
    let rank : t.rank ≡ u.rank = cc (a.rank, b.rank, a.own, b.own, segment, same) in
    not_before u.rank (rw rank at earlier)

-- What the overlaid segments of an order are placed over: extents that are placed before them and leave one run, and
-- the weight of the graph.
pub record Setting : Type 0 where
  pub c : Program
  pub is : IsGraph c.g
  pub low : ℕ
  pub high : ℕ
  pub weight : ℕ
  pub shares : shared_extents (fixed c) ≡ None
  pub data_only : OverlaysData (segments c) c.g
  pub finds : FindsRun c.g (fixed c) (order c) low high
  pub weighed : IsWeightOf (segments c) c.g weight

abbrev pub setting_of : (c : Program) → IsGraph c.g → (low high weight : ℕ) → shared_extents (fixed c) ≡ None
    → OverlaysData (segments c) c.g → FindsRun c.g (fixed c) (order c) low high → IsWeightOf (segments c) c.g weight
    → Setting
setting_of c is low high weight shares data_only finds weighed = record {
  c = c;
  is = is;
  low = low;
  high = high;
  weight = weight;
  shares = shares;
  data_only = data_only;
  finds = finds;
  weighed = weighed;
}

module _ (t : Setting) where
  pub all_parts : AreParts t.c.g (order t.c)
  all_parts = order_parts t.c.g t.c.controls (segments t.c) t.data_only

  before : AreAfter t.c.g (fixed t.c) (before_overlaid (order t.c)) t.finds.extents
  before = are_after t.c.g (before_overlaid (order t.c)) (fixed t.c) t.finds.extents
      (fixed_pairs t.c t.shares) t.finds.placed

  -- the extents placed before the overlaid segments are plain
  pub plain : Every (λ e. own_of t.c.g e ≡ None) t.finds.extents
  plain = rw before.are (every_append _ (fixed t.c) _ (fixed_bare t.c) (later_every before _ _
      (λ u base room lone. lone)
      (lone_before t.c.g t.c.controls (segments t.c) (order t.c) (ranked t.c))))

  pub heights : AreTops (joined_graph t.c.g) (unit_weight (segments t.c) t.c.g) vectors
      (total (λ (x : Chain). x.bytes) t.weighed.chains)
  heights =
      tops (joined_graph t.c.g) (unit_weight (segments t.c) t.c.g)
      (one_root_each t.c t.shares) vectors t.weighed.chains t.weighed.heaviest

  abbrev pub scene : Scene
  scene = record {
    g = t.c.g;
    kept = t.is;
    w = unit_weight (segments t.c) t.c.g;
    adds = heights.adds;
    holds = heights.holds;
    free = t.weighed.free;
    is_free = λ unit end. (t.weighed.tells unit).1 (no_root t.c.g t.is unit end);
    low = t.low;
    high = t.high;
    front = t.finds.extents;
    run = t.finds.run;
    plain = plain;
  }

  abbrev pub unrooted : ℕ
  unrooted = bytes_joined t.c.g t.weighed.free 0 (segments t.c)

  pub weighs : top scene 7 + unrooted ≡ t.weight
  weighs = omega (arith, heights.last, t.weighed.is, total_sum (λ (x : Chain). x.bytes) t.weighed.chains)

  pub pairs : Pairs Earlier (overlaid_in (order t.c))
  pairs = pairs_filter Earlier (λ (u : Ranked). is_some u.own) (order t.c)
      (order_rises t.c.g t.c.controls (segments t.c))

  -- they have the bytes of the joined segments
  order_bytes : (test : ℕ → Bool) → total (ranked_bytes t.c.g test) (overlaid_in (order t.c))
      ≡ bytes_joined t.c.g test 0 (segments t.c)
  order_bytes test = order_sum t.c.g test (segments t.c) t.c.controls (bare_absolute t.c) (ranked t.c)

  -- they are all laid, or the run is too short
  pub answer : Piles scene unrooted (place_after t.c.g t.finds.extents (overlaid_in (order t.c)))
  answer =
      piles scene (overlaid_in (order t.c)) unrooted all_parts.locals pairs
      (λ u. omega (arith, order_bytes (nat_eq u))) (omega (arith, order_bytes t.weighed.free))

  module _ (located : List Numbered) (located_is : place_after t.c.g t.finds.extents (overlaid_in
      (order t.c)) ≡ Ok located)
    where
      pub laid : AreLaid scene unrooted located
      laid = rw located_is at answer

      after : AreAfter t.c.g t.finds.extents (overlaid_in (order t.c)) located
      after = are_after t.c.g (overlaid_in (order t.c)) t.finds.extents located before.apart located_is

      abbrev xs : List Local
      xs = map (local_at t.c.g) located

      all_sum : (test : ℕ → Bool) → total (bytes test) xs ≡ bytes_joined t.c.g test 0 (segments t.c)
      all_sum test =
          omega (
            arith,
            total_map (bytes test) (local_at t.c.g) located,
            located_sum t.c.g test plain after,
            order_bytes test,
          )

      -- the extents before the overlaid segments, and these
      each_located : (P : Numbered → Type 0) → ((e : Numbered) → own_of t.c.g e ≡ None → P e)
          → ((e : Numbered) → IsLaid scene laid.done [] e → P e) → Every P located
      each_located P bare lies = rw laid.are (every_append P t.finds.extents laid.done
          (every_weaker _ P t.finds.extents bare plain)
          (every_weaker _ P laid.done lies laid.laid))

      -- each of them lies in the run
      local_each : Every (λ e. IsLocal (joined_graph t.c.g) (local_at t.c.g e)) located
      local_each =
          each_located _ (λ e none. record {
            ends = λ u own. absurd (cc (none, own));
            one_root = λ u a b own. absurd (cc (none, own));
          }) (λ e l. rw l.is (record {
            ends = λ u own some. ends l.base l.t.segment.size (is_data (located_at l.t l.base).placed) l.till some;
            one_root = λ u a b own. t.is.one_root l.t.number u a b
                (record { own = u; own_is = own_is t.c.g l.t.number u own; owner = inl refl });
          }))
        where
          ends : (base size : ℕ) (d : Bool) → (0 < size → base + size ≤ t.high) → 0 < cond d size 0
              → base + cond d size 0 ≤ 256
          ends base size d till some = grind (arith, till, t.finds.run.most)

      met : Every (λ e. (byte o : ℕ) → own_of t.c.g e ≡ Some o
          → has_byte e.placed.base (cond (is_data e.placed) e.placed.size 0) byte ≡ true
          → has_byte t.low (t.high - t.low) byte ≡ true) located
      met =
          each_located _ (λ e none byte o own. absurd (cc (none, own))) (λ e l. rw l.is (λ byte o own has.
          let inside = data_byte (located_at l.t l.base).placed byte has in
          let some : 0 < l.t.segment.size = omega (arith, inside.2, inside.3) in
          let from = l.from some in
          let till = l.till some in
          (has_byte_tells t.low (t.high - t.low) byte).1
          (omega (arith, from, inside.2), omega (arith, till, inside.3, t.finds.run.order))))

      -- two of related owners share no byte
      abbrev Against : Numbered → Numbered → Type 0
      Against e f = (a b : ℕ) → own_of t.c.g e ≡ Some a → own_of t.c.g f ≡ Some b → AreRelated (joined_graph t.c.g) a b
          → conflicts t.c.g e f ≡ true

      different : Pairs Against (map at_base after.picks)
      different = pairs_map at_base Against after.picks (pairs_got _ after.picks
          (λ i j p q less at at' a b own own' related.
          (conflict_tells t.c.g t.is.units p.0.number q.0.number (differ t.c p.0 q.0 (of p (got_in _ i p at))
          (of q (got_in _ j q at'))
          (pairs_at Earlier (overlaid_in (order t.c)) i j p.0 q.0 pairs less (pick_at after i p at)
          (pick_at after j q at')))).1
          (Owners a b (record { own = a; own_is = own_is t.c.g p.0.number a own; owner = inl refl })
          (record { own = b; own_is = own_is t.c.g q.0.number b own'; owner = inl refl }) related)))
        where
          of : (p : Ranked × ℕ) → In p after.picks → IsRankedOf t.c.g t.c.controls (segments t.c) p.0
          of p i = every_in _ (order t.c) p.0 (ranked t.c)
              (in_filter (λ (u : Ranked). is_some u.own) (order t.c) p.0 (pick_in after p i)).0

      apart_locals : Pairs (λ e f. KeptApart (joined_graph t.c.g) (local_at t.c.g e) (local_at t.c.g f)) located
      apart_locals =
          pairs_both (KeepApart t.c.g) Against
          (λ e f. KeptApart (joined_graph t.c.g) (local_at t.c.g e) (local_at t.c.g f)) located
          (λ e f keep other. record {
            none = λ a b byte own own' related has has'.
                keep.none (other a b own own' related)
                (_, (data_byte e.placed byte has).4, (data_byte f.placed byte has').4);
          }) after.apart (rw after.are (plain_pairs t.finds.extents plain))
        where
          plain_pairs : (es : List Numbered) → Every (λ e. own_of t.c.g e ≡ None) es
              → Pairs Against (es ++ map at_base after.picks)
          plain_pairs [] none = different
          plain_pairs (e ∷ es) none = (
            every_of _ (es ++ map at_base after.picks) (λ f there a b own. absurd (cc (none.0, own))),
            plain_pairs es none.1,
          )

      -- the run has as many bytes as the weight
      pub holds : t.low + t.weight ≤ t.high
      holds =
          let each : Every (IsLocal (joined_graph t.c.g)) xs = every_map _ _ located local_each in
          let apart : Pairs (KeptApart (joined_graph t.c.g)) xs = pairs_map _ _ located apart_locals in
          let items : AreLocals (joined_graph t.c.g) xs = record { each = each; apart = apart } in
          let most =
          weight_bound (joined_graph t.c.g) xs (unit_weight (segments t.c) t.c.g) t.weighed.chains t.weighed.free
          (has_byte t.low (t.high - t.low))
          items
          t.is.no_cycle (λ u. sym (all_sum (nat_eq u))) t.weighed.heaviest
          (λ unit is_free. (t.weighed.tells unit).0 is_free)
          (every_map _ _ located met) in
          in_run _ _ _ _ _ _ _ t.weighed.is most (all_sum t.weighed.free) (tally_range t.low (t.high - t.low) 256)
          t.finds.run.order
        where
          in_run : (bytes free free' met low high weight : ℕ) → weight ≡ bytes + free' → bytes + free ≤ met
              → free ≡ free' → met ≡ min 256 (low + (high - low)) - min 256 low → low ≤ high → low + weight ≤ high
          in_run bytes free free' met low high weight a b c d e = omega (arith, a, b, c, d, e)

-- The weight of a graph is that of each layout that placing gives over it.

-- the layout of a placing is that of what was placed
pub record IsOfLocated (g : GraphParts) (count : ℕ) (found : Result (List Numbered) Refusal)
    (p : Placing) : Type 0 where
  pub located : List Numbered
  pub is : found ≡ Ok located
  pub placing : placing_with g count located ≡ p

pub of_located : (g : GraphParts) (count : ℕ) (found : Result (List Numbered) Refusal) (p : Placing)
    → placing_from g count found ≡ Ok p → IsOfLocated g count found p
of_located g count (Ok located) p h = record { located = located; is = refl; placing = cc h }
of_located g count (Err refusal) p h = absurd (cc h)

-- the first owner of an extent is its own unit
first_is_own : (g : GraphParts) (number : Option ℕ)
    → first_of_list (option_map_or (owners_at g) number []) ≡ option_map_or (own_at g) number None
first_is_own g number = grind arith

-- the segments of the layout are the extents
locals_are : (g : GraphParts) (located : List Numbered) (number : ℕ) (rest : List Numbered)
    → Every (λ (p : ℕ × Numbered). slice_get located p.0 ≡ Some p.1) (with_numbers number rest)
    → locals (parts_of_layout g located) number (map (λ (e : Numbered). e.placed) rest) ≡ map (local_at g) rest
locals_are g located number [] from = refl
locals_are g located number (e ∷ more) from =
    let first : local_of e.placed (owners_of (parts_of_layout g located).owners number) ≡ local_at g e =
    rw (owners_are g located number, from.0, first_is_own) in
    cc (first, locals_are g located (number + 1) more from.1)

-- what holds of one program holds of another with the same edges and roots
module _ (p q : ProgramGraph) (same : HaveSameUnits p q)
    (heavy : (w : ℕ → ℕ) (c : Chain) → IsHeaviestWalk p.edges w c → IsHeaviestWalk q.edges w c) where
  chains_there : (w : ℕ → ℕ) (at : List ℕ) (chains : List Chain) → ChainsFrom p w at chains → ChainsFrom q w at chains
  chains_there w [] [] h = tt
  chains_there w [] (c ∷ chains) h = absurd h
  chains_there w (v ∷ more) [] h = (λ unit root. h.0 unit ((same.roots v unit).1 root), chains_there w more [] h.1)
  chains_there w (v ∷ more) (c ∷ chains) (inl h) =
      inl (λ unit root. h.0 unit ((same.roots v unit).1 root), chains_there w more (c ∷ chains) h.1)
  chains_there w (v ∷ more) (c ∷ chains) (inr h) =
      inr ((same.roots v c.root).0 h.0, heavy w c h.1, chains_there w more chains h.2)

  none_there : (unit : ℕ) (free : Bool) → ((free ≡ true) ↔ ((v : ℕ) → LiesUnder p v unit → ⊥))
      → ((free ≡ true) ↔ ((v : ℕ) → LiesUnder q v unit → ⊥))
  none_there unit free h = (
    λ f v lies. h.0 f v (under_there q p (same_back p q same) v unit lies),
    λ none. h.1 (λ v lies. none v (under_there p q same v unit lies)),
  )

-- what lies in a range counts no more than its length
in_range_most : (test : ℕ → Bool) (base size n : ℕ)
    → ((byte : ℕ) → test byte ≡ true → (base ≤ byte) × (byte < base + size)) → count_below test n ≤ size
in_range_most test base size n h =
    omega (
      arith,
      tally_mono test (has_byte base size) n (λ byte passes. (has_byte_tells base size byte).1 (h byte passes)),
      tally_range base size n,
      count_is test n,
    )

module _ (c : Program) (is : IsGraph c.g) (resolved : AreResolved c.modules) (located : List Numbered)
    (located_is : located_of c.modules c.controls c.g ≡ Ok located) where
  abbrev pub layout : LayoutParts
  layout = parts_of_layout c.g located

  pub whole : IsWhole c.g (segments c) located
  whole = placed_whole c.modules c.controls c.g located c.of c.valid resolved c.kept located_is

  pub rules : (shared_extents (fixed c) ≡ None) × (place_after c.g (fixed c) (order c) ≡ Ok located)
  rules = unless_none (shared_extents (fixed c)) (place_after c.g (fixed c) (order c)) located located_is

  passing_joined : (test : ℕ → Bool) → bytes_passing layout test 0 layout.placed ≡ bytes_joined c.g test 0 (segments c)
  passing_joined test =
      let after = are_after c.g (order c) (fixed c) located (fixed_pairs c rules.0) rules.1 in
      let same = locals_are c.g located 0 located (every_of _ _ (at_number located)) in
      omega (
        arith,
        passing_is layout test 0 layout.placed,
        ap (λ (xs : List Local). total (bytes test) xs) same,
        total_map (bytes test) (local_at c.g) located,
        located_sum c.g test (fixed_bare c) after,
        order_all c.g test (segments c) c.controls (bare_absolute c),
      )

  same_weights : unit_weight (segments c) c.g ≡ weight_of layout
  same_weights = λ i unit. sym (weight_is layout unit 0 layout.placed ∙ passing_joined (nat_eq unit)) i

  same : HaveSameUnits (layout_graph layout) (joined_graph c.g)
  same = same_units _ _ _ (shape c) is _ whole

  back_same : HaveSameUnits (joined_graph c.g) (layout_graph layout)
  back_same = same_back _ _ same

  pub agree : (weight : ℕ) → IsWeightOf (segments c) c.g weight → IsWeight layout weight
  agree weight h = record {
    chains = h.chains;
    heaviest = chains_there _ _ back_same (λ w x heavy. heavy) (weight_of layout) vectors h.chains
        (subst (λ w. ChainsFrom (joined_graph c.g) w vectors h.chains) same_weights h.heaviest);
    free = h.free;
    tells = λ unit. none_there _ _ back_same (λ w x heavy. heavy) unit _ (h.tells unit);
    is = rw passing_joined h.is;
  }

  pub back : (weight : ℕ) → IsWeight layout weight → IsWeightOf (segments c) c.g weight
  back weight h = record {
    chains = h.chains;
    heaviest = subst (λ w. ChainsFrom (joined_graph c.g) w vectors h.chains) (sym same_weights)
        (chains_there _ _ same (λ w x heavy. heavy) (weight_of layout) vectors h.chains h.heaviest);
    free = h.free;
    tells = λ unit. none_there _ _ same (λ w x heavy. heavy) unit _ (h.tells unit);
    is = rw passing_joined at h.is;
  }

  -- Placing covers by overlaid DATA as few bytes as it can.

  module _ (low high weight : ℕ) (data_only : OverlaysData (segments c) c.g)
      (finds : FindsRun c.g (fixed c) (order c) low high) (h : IsWeight layout weight) where
    abbrev t : Setting
    t = setting_of c is low high weight rules.0 data_only finds (back weight h)

    -- what is placed up to the last overlaid segment, and the rest
    parts : AreParts c.g (order c)
    parts = all_parts t

    middle : (es : List Numbered) × (place_after c.g finds.extents (overlaid_in (order c)) ≡ Ok es)
        × (place_after c.g es parts.rest ≡ Ok located)
    middle =
        let all = rw parts.are at rules.1 in
        let later = rw finds.placed at (rw place_append at all) in
        both_ok (place_after c.g finds.extents (overlaid_in (order c))) (λ es. place_after c.g es parts.rest) located
        (rw place_append at later)

    done : AreLaid (scene t) (unrooted t) middle.0
    done = laid t middle.0 middle.1

    rest : AreAfter c.g middle.0 parts.rest located
    rest = are_after c.g parts.rest middle.0 located (after t middle.0 middle.1).apart middle.2

    -- where an overlaid segment lies
    abbrev IsIn : ℕ → Type 0
    IsIn byte = (low ≤ byte) × (byte < low + weight)

    laid_in : (e : Numbered) (byte : ℕ) → IsLaid (scene t) done.done [] e
        → has_byte e.placed.base e.placed.size byte ≡ true → IsIn byte
    laid_in e byte l has =
        let inside = (has_byte_tells e.placed.base e.placed.size byte).0 has in
        let base : e.placed.base ≡ l.base = ap (λ (x : Numbered). x.placed.base) l.is in
        let size : e.placed.size ≡ l.t.segment.size = ap (λ (x : Numbered). x.placed.size) l.is in
        let some : 0 < l.t.segment.size = omega (arith, inside.0, inside.1, size) in
        let from = l.from some in
        let most =
        under_all (scene t) done.done l.one.unit (l.base + l.t.segment.size)
        (omega (arith, done.room.units l.one.unit)) (l.ends some) in
        (omega (arith, from, base, inside.0), omega (arith, most, done.room.others, weighs t, base, size, inside.1))

    bare_out : (e : Numbered) → In e located → e.placed.mark ≡ Overlaid → own_of c.g e ≡ None → ⊥
    bare_out e there mark none =
        let of = overlaid_at e (every_in (IsSpot c.g (segments c)) located e whole.spots there) mark in
        none-some _ (sym (rw of.1 at none) ∙ (of.2.overlaid mark).1)

    -- the extents before the overlaid segments, these, and plain ones
    sides : (e : Numbered) (byte : ℕ) → In e located → e.placed.mark ≡ Overlaid
        → has_byte e.placed.base e.placed.size byte ≡ true → IsIn byte
    sides e byte there mark has = elim (in_cases middle.0 (map at_base rest.picks) e (rw rest.are at there)) [
      | inr other ↦ absurd (bare_out e there mark
          (every_in (λ e. own_of c.g e ≡ None) _ e
          (later_every rest (IsPlain c.g) (λ e. own_of c.g e ≡ None) (λ u base room lone. lone) parts.after) other))
      | inl first ↦ elim (in_cases finds.extents done.done e (rw done.are at first)) [
        | inl front ↦ absurd (bare_out e there mark
            (every_in (λ e. own_of c.g e ≡ None) finds.extents e (plain t) front))
        | inr in_done ↦ laid_in e byte (every_in (IsLaid (scene t) done.done []) done.done e done.laid in_done) has
      ]
    ]

    covered_in : (byte : ℕ) → list_any (covers_byte byte) (map (λ (e : Numbered). e.placed) located) ≡ true → IsIn byte
    covered_in byte covers =
        let any = Any-from_list_any (covers_byte byte) (map (λ (e : Numbered). e.placed) located) covers in
        let p : Placed = any.1 in
        let both = and_parts (is_data p) (has_byte p.base p.size byte) any.4 in
        let image = in_map (λ (e : Numbered). e.placed) located p (in_contains _ p (any.0, any.2, any.3)) in
        sides image.0 byte image.1
        (ap (λ (x : Placed). x.mark) image.2 ∙ (data_kind p.kind p.reloc p.mark both.0).1) (rw image.2 both.1)

    pub tight : (covered_bytes layout ≡ weight) × (low ≤ high) × (weight ≤ high - low)
    tight =
        let test : ℕ → Bool = λ byte. list_any (covers_byte byte) (map (λ (e : Numbered). e.placed) located) in
        let bound = least layout weight (sound _ _ _ (shape c) is _ whole) h in
        let room = holds t middle.0 middle.1 in (
          omega (arith, in_range_most test low weight 256 covered_in, bound),
          finds.run.order,
          omega (arith, room),
        )

pub weights_agree : WeightsAgree
weights_agree modules controls g p weight valid resolved kept is graph_is placed h =
    let c : Program = program modules controls g valid kept graph_is in
    let of = of_located g _ (located_of modules controls g) p placed in
    rw (← of.placing) (agree c is resolved of.located of.is weight h)

pub placing_tight : PlacingIsTight
placing_tight modules controls g p low high weight valid resolved kept is graph_is placed data_only finds h =
    let c : Program = program modules controls g valid kept graph_is in
    let of = of_located g _ (located_of modules controls g) p placed in
    rw (← of.placing) (tight c is resolved of.located of.is low high weight data_only finds (rw (← of.placing) at h))

-- Where overlaid segments are of DATA of type UNIT only, a map's figure of overlaid bytes is what they cover.

same_data : (kind : Kind) (reloc : Reloc) (mark : Mark) → (mark ≡ Overlaid → (kind ≡ Direct) × (reloc ≡ UnitType))
    → is_overlaid_data kind UnitType mark ≡ is_overlaid_data kind reloc mark
same_data kind reloc mark h = grind arith

-- so each extent counts in the one figure where it counts in the other
module _ (g : GraphParts) (segments : List JoinedSegment) (data_only : OverlaysData segments g) where
  of_data : (e : Numbered) → IsSpot g segments e → e.placed.mark ≡ Overlaid
      → (e.placed.kind ≡ Direct) × (e.placed.reloc ≡ UnitType)
  of_data e spot mark =
      let of = overlaid_at e spot mark in
      let own = of.2.overlaid mark in
      let told = data_only.data_only of.0 own.0 of.2.j (own_is g of.0 own.0 own.1) of.2.is in
      (of.2.kind ∙ told.0, of.2.reloc ∙ told.1)

  any_same : (byte : ℕ) (es : List Numbered) → Every (IsSpot g segments) es
      → list_any (overlays_byte byte) (map (λ (e : Numbered). e.placed) es)
      ≡ list_any (covers_byte byte) (map (λ (e : Numbered). e.placed) es)
  any_same byte [] spots = refl
  any_same byte (e ∷ es) spots =
      rw (
        same_data e.placed.kind e.placed.reloc e.placed.mark (of_data e spots.0),
        any_same byte es spots.1,
      )

pub figure_is_weight : FigureIsWeight
figure_is_weight modules controls g p low high weight valid resolved kept is graph_is placed data_only finds h =
    let of = of_located g _ (located_of modules controls g) p placed in
    let whole = placed_whole modules controls g of.located graph_is valid resolved kept of.is in
    let same : overlaid_bytes p.layout ≡ covered_bytes p.layout =
    rw (← of.placing) (ap (λ (test : ℕ → Bool). count_below test 256)
    (λ i byte. any_same g (segments_of modules) data_only byte of.located whole.spots i)) in
    same ∙ (placing_tight modules controls g p low high weight valid resolved kept is graph_is placed data_only finds
    h).0

-- Levels that climb along the edges until each edge leads to a higher one.
use Rattle.m51_graph.proofs.Common.{◌≡◌, inl, inr, ℕ, zero, suc, ◌+◌, ◌*◌, ◌<◌, ◌≤◌, true, false, Bool, ◌||◌, List, []}
use Rattle.m51_graph.proofs.Common.{◌∷◌, ◌++◌, length, take, get_or, sum, refl, sym, ap, ◌∙◌, arith, take_more}
use Rattle.m51_graph.proofs.Common.{false≢true, Edges, HasEdge, IsWalk, last_of, Reaches, none_in_empty, reach_edge}
use Rattle.m51_graph.proofs.Common.{AreWalked, IsClimbing, LeadWithin, IsLevel, subst, GraphParts, Tables}
use Rattle.std.proofs.Common.{set, length-append}
use Rattle.std.proofs.lemmas.Bool.{false_from_ne_true}
use Rattle.std.proofs.lemmas.List.{get_or-set_same, get_or-set_other, length-set}
use Rattle.std.proofs.lemmas.List.Elements.{Contains-push_cases, Contains-get_or}
use Rattle.std.proofs.lemmas.List.Sums.{sum_by-set}
use Rattle.m51_cells.proofs.ListsAndOptions.{sum_most}
use Rattle.m51_module.proofs.Units.{same_or_not}
use Rattle.m51_module.proofs.Reach.{last_on, reach_on, walk_on}
use Rattle.m51_graph.specs.Leading.{leads}
use Rattle.m51_graph.specs.Climbing.{AreSettled, Lifts}
use Rattle.m51_graph.specs.DrawnEdges.{IsEdgeWithin}
use Rattle.m51_graph.specs.Levels.{EndsWalk}
use Rattle.m51_graph.proofs.Deciding.{leads_tells}
use Rattle.m51_graph.specs.Kept.{IsKeptGraph}

abbrev pub one_if : Bool → ℕ
one_if true = 1
one_if false = 0

-- how many numbers below n pass a test
abbrev pub tally : (ℕ → Bool) → ℕ → ℕ
tally p zero = 0
tally p (suc n) = one_if (p n) + tally p n

pub tally_le : (p : ℕ → Bool) (n : ℕ) → tally p n ≤ n
tally_le p zero = omega arith
tally_le p (suc n) = grind (arith, tally_le p n)

-- a number counts no more under a weaker test
pub one_le : (a b : Bool) → (a ≡ true → b ≡ true) → one_if a ≤ one_if b
one_le a b h = grind arith

pub tally_mono : (p q : ℕ → Bool) (n : ℕ) → ((w : ℕ) → p w ≡ true → q w ≡ true) → tally p n ≤ tally q n
tally_mono p q zero h = omega arith
tally_mono p q (suc n) h = omega (arith, tally_mono p q n h, one_le (p n) (q n) (h n))

-- and more numbers pass the weaker test if one of them passes only that
pub tally_lt : (p q : ℕ → Bool) (n w : ℕ) → w < n → ((u : ℕ) → p u ≡ true → q u ≡ true) → p w ≡ false → q w ≡ true
    → tally p n < tally q n
tally_lt p q zero w below h lacks passes = absurd (omega (arith, below))
tally_lt p q (suc n) w below h lacks passes = elim (same_or_not w n) [
  | inl e ↦ omega (arith, tally_mono p q n h, ap one_if (rw e at lacks), ap one_if (rw e at passes))
  | inr ne ↦
      omega (arith, tally_lt p q n w (omega (arith, below, ne)) h lacks passes, one_le (p n) (q n) (h n))
]

module _ (n : ℕ) (edges : Edges) (within : LeadWithin n edges) (no_cycle : (u : ℕ) → Reaches edges u u → ⊥) where
  -- how many units reach a unit
  abbrev pub rank : ℕ → ℕ
  rank v = tally (λ w. leads edges w v) n

  -- more of them along an edge
  pub rank_edge : (u v : ℕ) → HasEdge edges u v → rank u < rank v
  rank_edge u v e = tally_lt (λ w. leads edges w u) (λ w. leads edges w v) n u (within.within u v e).0
      (λ w h. (leads_tells edges w v).1 (reach_on edges w u v ((leads_tells edges w u).0 h) e))
      (false_from_ne_true (leads edges u u) (λ h. no_cycle u ((leads_tells edges u u).0 h)))
      ((leads_tells edges u v).1 (reach_edge edges u v e))

  rank_walk : (u : ℕ) (more : List ℕ) → IsWalk edges u more → rank u + length more ≤ rank (last_of u more)
  rank_walk u [] walk = omega arith
  rank_walk u (v ∷ more) walk = omega (arith, rank_edge u v walk.0, rank_walk v more walk.1)

  -- no walk is longer than there are units
  pub walk_short : (unit count : ℕ) → EndsWalk edges unit count → count ≤ n
  walk_short unit count h =
      omega (
        arith,
        rank_walk h.first h.more h.walk,
        tally_le (λ w. leads edges w (last_of h.first h.more)) n,
        h.count_is,
      )

-- a walk that ends in a unit, and then an edge
pub ends_on : (edges : Edges) (u v count : ℕ) → EndsWalk edges u count → HasEdge edges u v
    → EndsWalk edges v (count + 1)
ends_on edges u v count h e = record {
  first = h.first;
  more = h.more ++ v ∷ [];
  walk = walk_on edges h.first h.more v h.walk (rw h.ends e);
  ends = last_on h.first h.more v;
  count_is = omega (arith, length-append h.more (v ∷ []), h.count_is);
}

-- at first each level is 0, of the walk without an edge
pub walked_first : (edges : Edges) (levels : List ℕ) → ((u : ℕ) → u < length levels → get_or levels u 0 ≡ 0)
    → AreWalked edges levels
walked_first edges levels zeros =
    record {
      walked =
          λ u below. record { first = u; more = []; walk = tt; ends = refl; count_is = sym (zeros u below) };
    }

pub climbs_none : (edges : Edges) (levels : List ℕ) → AreWalked edges levels → IsClimbing edges [] levels levels false
climbs_none edges levels walked = record {
  len = refl;
  walked = walked;
  settled = λ h. record { higher = λ u v e. absurd (none_in_empty (u, v) e) };
  not_less = omega arith;
  more = λ h. absurd (false≢true h);
}

-- a level that rises
pub climbs_edge : (edges done : Edges) (u v : ℕ) (old new : List ℕ) (rose : Bool) → HasEdge edges u v → u < length new
    → v < length new
    → get_or new v 0 < get_or new u 0 + 1 → IsClimbing edges done old new rose
    → IsClimbing edges (done ++ (u, v) ∷ []) old (set new v (get_or new u 0 + 1)) true
climbs_edge edges done u v old new rose e in_u in_v less c =
    let level : ℕ = get_or new u 0 + 1 in
    let longer : sum (set new v level) + get_or new v 0 ≡ sum new + level =
    sum_by-set (λ (x : ℕ). x) new v level 0 in_v in
    let same : length (set new v level) ≡ length new = length-set new v level in
    record {
      len = same ∙ c.len;
      walked = record {
        walked = λ w below. elim (same_or_not w v) [
          | inl here ↦ rw (here, get_or-set_same new v level 0 in_v)
              (ends_on edges u v (get_or new u 0) (c.walked.walked u in_u) e)
          | inr other ↦ rw (get_or-set_other new v w level 0 other) (c.walked.walked w (omega (arith, below, same)))
        ];
      };
      settled = λ h. absurd (false≢true (sym h));
      not_less = omega (arith, longer, c.not_less, less);
      more = λ h. omega (arith, longer, c.not_less, less);
    }

-- a level that is high enough
pub climbs_pass : (edges done : Edges) (u v : ℕ) (old new : List ℕ) (rose : Bool) → get_or new u 0 + 1 ≤ get_or new v 0
    → IsClimbing edges done old new rose → IsClimbing edges (done ++ (u, v) ∷ []) old new rose
climbs_pass edges done u v old new rose high c = record {
  len = c.len;
  walked = c.walked;
  settled = λ h. record {
    higher = λ x y e. elim (Contains-push_cases done (u, v) (x, y) e) [
      | inl before ↦ (c.settled h).higher x y before
      | inr here ↦ omega (
        arith,
        high,
        ap (λ (p : ℕ × ℕ). get_or new p.0 0) here,
        ap (λ (p : ℕ × ℕ). get_or new p.1 0) here,
      )
    ];
  };
  not_less = c.not_less;
  more = c.more;
}

-- the next edge of a list
pub climbs_more : (edges : Edges) (i : ℕ) (d : ℕ × ℕ) (old now new : List ℕ) (rose lifted : Bool)
    → LeadWithin (length now) edges → i < length edges
    → Lifts (get_or edges i d).0 (get_or edges i d).1 now new lifted → IsClimbing edges (take i edges) old now rose
    → IsClimbing edges (take (i + 1) edges) old new (lifted || rose)
climbs_more edges i d old now new rose true within below h c =
    let edge : ℕ × ℕ = get_or edges i d in
    let is : HasEdge edges edge.0 edge.1 = Contains-get_or edges i d below in
    let inside = within.within edge.0 edge.1 is in
    rw (h.1, take_more edges i d below)
    (climbs_edge edges (take i edges) edge.0 edge.1 old now rose is inside.0 inside.1 h.0 c)
climbs_more edges i d old now new rose false within below h c =
    let edge : ℕ × ℕ = get_or edges i d in
    rw (h.1, take_more edges i d below)
    (climbs_pass edges (take i edges) edge.0 edge.1 old now rose (omega (arith, h.0)) c)

module _ (edges : Edges) (levels : List ℕ) (within : LeadWithin (length levels) edges)
    (no_cycle : (u : ℕ) → Reaches edges u u → ⊥) (walked : AreWalked edges levels) where
  -- levels are no higher than there are units
  pub level_most : (unit : ℕ) → unit < length levels → get_or levels unit 0 ≤ length levels
  level_most unit below =
      walk_short (length levels) edges within no_cycle unit (get_or levels unit 0) (walked.walked unit below)

  pub levels_most : sum levels ≤ length levels * length levels
  levels_most = sum_most (length levels) levels level_most

-- where each edge leads to a higher level, no walk has more edges than the level of its end
module _ (edges : Edges) (levels : List ℕ) (settled : AreSettled edges levels) where
  climbed : (u : ℕ) (more : List ℕ) → IsWalk edges u more
      → get_or levels u 0 + length more ≤ get_or levels (last_of u more) 0
  climbed u [] walk = omega arith
  climbed u (v ∷ more) walk = omega (arith, settled.higher u v walk.0, climbed v more walk.1)

  pub level_is : (unit : ℕ) → AreWalked edges levels → unit < length levels → IsLevel edges unit (get_or levels unit 0)
  level_is unit walked below = record {
    longest = walked.walked unit below;
    most = λ count h. omega (arith, climbed h.first h.more h.walk, h.count_is, ap (λ u. get_or levels u 0) h.ends);
  }

-- both ends of an edge of the list are within
pub ends_within : (count i : ℕ) (edges : Edges) → LeadWithin count edges → i < length edges
    → IsEdgeWithin count (get_or edges i (0, 0))
ends_within count i edges within below =
    let both = within.within _ _ (Contains-get_or edges i (0, 0) below) in record { from = both.0; to = both.1 }

-- The levels that a graph keeps.
module _ (g : GraphParts) (t : Tables) (kept : IsKeptGraph g t) (unit : ℕ) (below : unit < length g.units) where
  inside : unit < length t.levels.items
  inside = omega (arith, below, kept.tables.level_count)

  pub kept_level : IsLevel g.edges unit (get_or t.levels.items unit 0)
  kept_level = level_is g.edges t.levels.items kept.tables.settled unit kept.tables.walked inside

  -- it is a small number
  pub level_below : get_or t.levels.items unit 0 ≤ 1000
  level_below =
      let within : LeadWithin (length t.levels.items) g.edges =
      subst (λ n. LeadWithin n g.edges) (sym kept.tables.level_count) kept.graph.units.edges in
      omega (
        arith,
        level_most g.edges t.levels.items within kept.graph.no_cycle kept.tables.walked unit inside,
        kept.tables.level_count,
        kept.graph.units.few_units,
      )

-- Each graph has a weight: without cycles there is a heaviest walk from each unit.
use Rattle.m51_build_proof.proofs
use proofs.Common.{Chain, vectors, GraphParts, IsGraph, LeadWithin, UnitLiesUnder, joined_graph, leads, list_any}
use proofs.Common.{Contains, sum_by, flat_map, false≢true, cases_Bool, cases_order, eq-eqb, eqb-true, not-true, Edges}
use proofs.Common.{HasEdge, IsWalk, Reaches, same_or_not, JoinedSegment, rank, rank_edge, tally_le, above_tells}
use Rattle.std.proofs.Common.{◌≡◌, ◌⊎◌, inl, inr, ℕ, zero, suc, ◌+◌, ◌<◌, ◌≤◌, true, Bool, List, [], ◌∷◌, length, map}
use Rattle.std.proofs.Common.{refl, arith, sym, ap, ◌∙◌, false, not, cond, subst, ◌==◌}
use Rattle.std.proofs.lemmas.List.Folds.{Any-from_list_any, list_any-from_Any}
use Rattle.m51_cells.proofs.Members.{In, Every, contains_in, every_in, every_weaker, flat_in, in_contains, in_flat}
use Rattle.m51_cells.proofs.Members.{in_map, map_in}
use Rattle.m51_module.specs.Chains.{ChainsFrom, ComesFirst, IsHeaviestWalk, LacksRoot, sum_along}
use Rattle.m51_graph.specs.Graphs.{lies_under}
use Rattle.m51_place.specs.Overlay.{bytes_joined, unit_weight}
use Rattle.m51_build_proof.specs.Overlay.{HasWeight}

-- an element that is so, in a list
abbrev pub Some_in : {X : Type 0} → (X → Type 0) → List X → Type 0
Some_in P [] = ⊥
Some_in P (x ∷ xs) = P x ⊎ Some_in P xs

pub element : {X : Type 0} (P : X → Type 0) (xs : List X) → Some_in P xs → (x : X) × In x xs × P x
element P [] h = absurd h
element P (x ∷ xs) (inl here) = (x, inl refl, here)
element P (x ∷ xs) (inr later) = let e = element P xs later in (e.0, inr e.1, e.2)

pub some_in : {X : Type 0} (P : X → Type 0) (xs : List X) (x : X) → In x xs → P x → Some_in P xs
some_in P [] x h is = absurd h
some_in P (y ∷ xs) x (inl same) is = inl (rw same is)
some_in P (y ∷ xs) x (inr later) is = inr (some_in P xs x later is)

-- of each element one of two things is known: one of them somewhere, or the other of all
pub seek : {X : Type 0} (P Q : X → Type 0) → ((x : X) → P x ⊎ Q x) → (xs : List X) → Some_in P xs ⊎ Every Q xs
seek P Q tells [] = inr tt
seek P Q tells (x ∷ xs) = grind (arith, tells x, seek P Q tells xs)

-- one number is less than the other, or they are the same and this holds
abbrev Lesser : ℕ → ℕ → Type 0 → Type 0
Lesser a b P = (a < b) ⊎ ((a ≡ b) × P)

lesser_or : (a b : ℕ) {P Q : Type 0} → P ⊎ Q → Lesser a b P ⊎ Lesser b a Q
lesser_or a b same = grind (arith, cases_order a b)

lesser_over : (a b c : ℕ) {P Q R : Type 0} → (P → Q → R) → Lesser a b P → Lesser b c Q → Lesser a c R
lesser_over a b c on h k = grind arith

-- of two lists one comes first
first_self : (xs : List ℕ) → ComesFirst xs xs
first_self [] = tt
first_self (x ∷ xs) = inr (refl, first_self xs)

first_of_two : (xs ys : List ℕ) → ComesFirst xs ys ⊎ ComesFirst ys xs
first_of_two [] ys = inl tt
first_of_two (x ∷ xs) [] = inr tt
first_of_two (x ∷ xs) (y ∷ ys) = lesser_or x y (first_of_two xs ys)

first_over : (xs ys zs : List ℕ) → ComesFirst xs ys → ComesFirst ys zs → ComesFirst xs zs
first_over [] ys zs h k = tt
first_over (x ∷ xs) (y ∷ ys) (z ∷ zs) h k = lesser_over x y z (first_over xs ys zs) h k
first_over (x ∷ xs) ys zs h k = grind arith

module _ (weight : ℕ → ℕ) where
  -- the first walk from the unit weighs more, or as much and comes first
  abbrev Beats : ℕ → List ℕ → List ℕ → Type 0
  Beats unit more other =
      Lesser (sum_along weight (unit ∷ other)) (sum_along weight (unit ∷ more)) (ComesFirst more other)

  beats_over : (unit : ℕ) (one two three : List ℕ) → Beats unit one two → Beats unit two three → Beats unit one three
  beats_over unit one two three h k = lesser_over _ _ _ (λ q p. first_over one two three p q) k h

  -- one of these walks beats all
  top_of : (unit : ℕ) (more : List ℕ) (others : List (List ℕ))
      → (top : List ℕ) × In top (more ∷ others) × Every (Beats unit top) (more ∷ others)
  top_of unit more [] = (more, inl refl, (inr (refl, first_self more), tt))
  top_of unit more (other ∷ others) =
      let t = top_of unit other others in
      elim (lesser_or _ _ (first_of_two more t.0)) [
        | inl wins ↦
            let over = λ (one : List ℕ) (k : Beats unit t.0 one). beats_over unit more t.0 one wins k in
            let all = every_weaker (Beats unit t.0) (Beats unit more) (other ∷ others) over t.2 in
            (more, inl refl, (inr (refl, first_self more), all))
        | inr loses ↦ (t.0, inr t.1, (loses, t.2))
      ]

  module _ (n : ℕ) (edges : Edges) (within : LeadWithin n edges) (no_cycle : (u : ℕ) → Reaches edges u u → ⊥) where
    height : ℕ → ℕ
    height unit = rank n edges within no_cycle unit

    rises : (u v : ℕ) → HasEdge edges u v → height u < height v
    unfolding height
    rises u v e = rank_edge n edges within no_cycle u v e

    lies_low : (u : ℕ) → height u ≤ n
    unfolding height
    lies_low u = tally_le (λ w. leads edges w u) n

    -- the walks from a unit that take an edge, up to a length
    abbrev walks_of : ℕ → ℕ → List (List ℕ)
    walks_of zero unit = []
    walks_of (suc left) unit = flat_map
        (λ e. cond (e.0 == unit) (map (λ more. e.1 ∷ more) ([] ∷ walks_of left e.1)) []) edges

    -- a unit has more above it the fewer there are below
    is_listed : (left unit : ℕ) (more : List ℕ) → n ≤ height unit + left → IsWalk edges unit more
        → In more ([] ∷ walks_of left unit)
    is_listed left unit [] high walk = inl refl
    is_listed zero unit (v ∷ more) high walk = absurd (omega (arith, rises unit v walk.0, lies_low v, high))
    is_listed (suc left) unit (v ∷ more) high walk =
        let rest = is_listed left v more (omega (arith, rises unit v walk.0, high)) walk.1 in
        inr (flat_in _ edges (unit, v) (v ∷ more) (in_contains edges (unit, v) walk.0)
        (rw (eq-eqb unit unit refl) (map_in (λ (more : List ℕ). v ∷ more) ([] ∷ walks_of left v) more rest)))

    is_walk : (left unit : ℕ) (more : List ℕ) → In more ([] ∷ walks_of left unit) → IsWalk edges unit more
    is_walk left unit more (inl same) = subst (IsWalk edges unit) same tt
    is_walk zero unit more (inr h) = absurd h
    is_walk (suc left) unit more (inr h) =
        let of = in_flat _ edges more h in
        elim (cases_Bool (of.0.0 == unit)) [
          | inl is ↦
              let by = in_map _ ([] ∷ walks_of left of.0.1) more (rw is at of.2) in
              let edge = subst (λ u. HasEdge edges u of.0.1) (eqb-true of.0.0 unit is) (contains_in edges of.0 of.1) in
              subst (IsWalk edges unit) by.2 (edge, is_walk left of.0.1 by.0 by.1)
          | inr other ↦ absurd (rw other at of.2)
        ]

    -- a walk from the unit that beats all others
    record HasBest (unit : ℕ) : Type 0 where
      more : List ℕ
      walk : IsWalk edges unit more
      most : (other : List ℕ) → IsWalk edges unit other → Beats unit more other

    best_of : (unit : ℕ) → HasBest unit
    best_of unit =
        let t = top_of unit [] (walks_of n unit) in
        record {
          more = t.0;
          walk = is_walk n unit t.0 t.1;
          most = λ other walk. every_in (Beats unit t.0) ([] ∷ walks_of n unit) other t.2
              (is_listed n unit other (omega arith) walk);
        }

module _ (g : GraphParts) (is : IsGraph g) (weight : ℕ → ℕ) where
  record HasChains (at : List ℕ) : Type 0 where
    chains : List Chain
    are : ChainsFrom (joined_graph g) weight at chains

  without : (vector : ℕ) (more : List ℕ) (chains : List Chain) → LacksRoot (joined_graph g) vector
      → ChainsFrom (joined_graph g) weight more chains
      → ChainsFrom (joined_graph g) weight (vector ∷ more) chains
  without vector more [] lacks are = (lacks, are)
  without vector more (c ∷ chains) lacks are = inl (lacks, are)

  has_chains : (at : List ℕ) → HasChains at
  has_chains [] = record { chains = []; are = tt }
  has_chains (vector ∷ more) =
      let rest = has_chains more in
      let Is : ℕ × ℕ → Type 0 = λ root. root.0 ≡ vector in
      let IsNot : ℕ × ℕ → Type 0 = λ root. root.0 ≡ vector → ⊥ in
      elim (seek Is IsNot (λ root. same_or_not root.0 vector) g.roots) [
        | inl some ↦
            let found = element Is g.roots some in
            let unit = found.0.1 in
            let best = best_of weight (length g.units) g.edges is.units.edges is.no_cycle unit in
            let chain : Chain =
            record { root = unit; bytes = sum_along weight (unit ∷ best.more); units = unit ∷ best.more } in
            let walk : IsHeaviestWalk g.edges weight chain =
            record { more = best.more; units = refl; walk = best.walk; bytes = refl; most = best.most } in
            let root = subst (λ v. Contains g.roots (v, unit)) found.2 (contains_in g.roots found.0 found.1) in
            record { chains = chain ∷ rest.chains; are = inr (root, walk, rest.are) }
        | inr none ↦ record {
          chains = rest.chains;
          are = without vector more rest.chains (λ unit h. every_in IsNot g.roots (vector, unit) none
              (in_contains g.roots (vector, unit) h) refl) rest.are;
        }
      ]

  under : ℕ → ℕ → Bool
  under unit vector = lies_under (leads g.edges) g.roots vector unit

  free : ℕ → Bool
  free unit = not (list_any (under unit) vectors)

  frees : (unit : ℕ) → free unit ≡ true → (vector : ℕ) → UnitLiesUnder g vector unit → ⊥
  unfolding under free
  frees unit h vector lies =
      let at : Contains vectors vector = (is.units.roots vector lies.root lies.is_root).0 in
      let some = list_any-from_Any (under unit) vectors
      (at.0, vector, at.1, at.2, (above_tells g vector unit).1 lies) in
      false≢true (sym (not-true (list_any (under unit) vectors) h) ∙ some)

  is_free : (unit : ℕ) → ((vector : ℕ) → UnitLiesUnder g vector unit → ⊥) → free unit ≡ true
  unfolding under free
  is_free unit none = elim (cases_Bool (list_any (under unit) vectors)) [
    | inl some ↦ let any = Any-from_list_any (under unit) vectors some in
        absurd (none any.1 ((above_tells g any.1 unit).0 any.4))
    | inr not_some ↦ ap not not_some
  ]

-- each graph has a weight
pub has_weight : (segments : List JoinedSegment) (g : GraphParts) → IsGraph g → HasWeight segments g
has_weight segments g is =
    let found = has_chains g is (unit_weight segments g) vectors in
    record {
      weight = sum_by (λ (c : Chain). c.bytes) found.chains + bytes_joined g (free g is (unit_weight segments g)) 0
          segments;
      is = record {
        chains = found.chains;
        heaviest = found.are;
        free = free g is (unit_weight segments g);
        tells = λ unit. (frees g is (unit_weight segments g) unit, is_free g is (unit_weight segments g) unit);
        is = refl;
      };
    }

-- The pairs that walks along edges join, found unit by unit.
use Rattle.m51_graph.proofs.Common.{◌++◌, take_more, false, ◌||◌, ◌∙◌, ap, ◌≡◌, ◌⊎◌, inl, inr, ℕ, zero, suc, ◌+◌, ◌<◌}
use Rattle.m51_graph.proofs.Common.{Bool, true, ◌&&◌, List, [], ◌∷◌, length, take, get_or, refl, subst, arith, nat_eq}
use Rattle.m51_graph.proofs.Common.{cases_eq, Decides-eqb, Decides, edge_test, same_edge, LeadWithin, reach_edge, Edges}
use Rattle.m51_graph.proofs.Common.{HasEdge, IsWalk, Reaches, last_of, flipped}
use Rattle.std.proofs.lemmas.List.Folds.{list_any-append}
use Rattle.std.proofs.Math.Bool.{and_comm}
use Rattle.m51_relations.specs.Rows.{closed_below, with_pair}
use Rattle.m51_graph.specs.Leading.{leads}
use Rattle.m51_relations.proofs.BitLaws.{same_pairs}
use Rattle.m51_graph.proofs.Deciding.{and_decides, any_decides, leads_is, or_decides, reach_trans, with_ends}

-- the test for an edge is true exactly if the edge exists
pub edge_tells : (edges : Edges) (u v : ℕ) → Decides (edge_test edges u v) (HasEdge edges u v)
edge_tells edges u v =
    let tells = any_decides (same_edge (u, v)) (λ (edge : ℕ × ℕ). (u ≡ edge.0) × (v ≡ edge.1))
    (λ (edge : ℕ × ℕ). and_decides _ _ (Decides-eqb u edge.0) (Decides-eqb v edge.1)) edges in (
      λ h. let some = tells.0 h in with_ends edges some.0 u v some.2.0 some.2.1 some.1,
      λ h. tells.1 ((u, v), h, (refl, refl)),
    )

-- the pair of one more edge, and the same reversed
swap_last : (a b : Bool) → (b || (a || false)) ≡ (a || b)
swap_last a b = grind arith

pub edge_pushed : (edges : Edges) (edge : ℕ × ℕ) → edge_test (edges ++ edge ∷ [])
    ≡ with_pair edge.0 edge.1 (edge_test edges)
edge_pushed edges edge =
    same_pairs (edge_test (edges ++ edge ∷ [])) (with_pair edge.0 edge.1 (edge_test edges))
    (λ u v. list_any-append (same_edge (u, v)) edges (edge ∷ [])
    ∙ swap_last (nat_eq u edge.0 && nat_eq v edge.1) (edge_test edges u v))

pub edge_more : (edges : Edges) (i : ℕ) → i < length edges → edge_test (take (i + 1) edges)
    ≡ with_pair (get_or edges i (0, 0)).0 (get_or edges i (0, 0)).1 (edge_test (take i edges))
edge_more edges i below =
    rw (take_more edges i (0, 0) below) (edge_pushed (take i edges) (get_or edges i (0, 0)))

pub caller_more : (edges : Edges) (i : ℕ) → i < length edges → flipped (edge_test (take (i + 1) edges))
    ≡ with_pair (get_or edges i (0, 0)).1 (get_or edges i (0, 0)).0 (flipped (edge_test (take i edges)))
caller_more edges i below =
    rw (edge_more edges i below) (same_pairs _ _
    (λ u v. ap (λ b. b || edge_test (take i edges) v u) (and_comm (nat_eq v (get_or edges i (0, 0)).0) _)))

module _ (edges : Edges) (has : ℕ → ℕ → Bool) (tells : (u v : ℕ) → Decides (has u v) (HasEdge edges u v)) where
  -- a walk without the unit k between its ends, or one to k and one on from it
  abbrev Via : ℕ → ℕ → ℕ → Type 0
  Via k u v = (closed_below k has u v ≡ true) ⊎ ((closed_below k has u k ≡ true) × (closed_below k has k v ≡ true))

  via_tells : (k u v : ℕ) → Decides (closed_below (suc k) has u v) (Via k u v)
  unfolding closed_below
  via_tells k u v =
      or_decides (closed_below k has u v) (closed_below k has u k && closed_below k has k v) (λ h. h, λ h. h)
      (and_decides (closed_below k has u k) (closed_below k has k v) (λ h. h, λ h. h) (λ h. h, λ h. h))

  closed_reaches : (k u v : ℕ) → closed_below k has u v ≡ true → Reaches edges u v
  unfolding closed_below
  closed_reaches zero u v h = reach_edge edges u v ((tells u v).0 h)
  closed_reaches (suc k) u v h = elim ((via_tells k u v).0 h) [
    | inl direct ↦ closed_reaches k u v direct
    | inr both ↦ reach_trans edges u k v (closed_reaches k u k both.0) (closed_reaches k k v both.1)
  ]

  closed_edge : (k u v : ℕ) → HasEdge edges u v → closed_below k has u v ≡ true
  unfolding closed_below
  closed_edge zero u v e = (tells u v).1 e
  closed_edge (suc k) u v e = (via_tells k u v).1 (inl (closed_edge k u v e))

  -- two walks that meet in a unit below the bound
  closed_on : (k u w v : ℕ) → w < k → closed_below k has u w ≡ true → closed_below k has w v ≡ true
      → closed_below k has u v ≡ true
  unfolding closed_below
  closed_on zero u w v below p q = absurd (omega (arith, below))
  closed_on (suc k) u w v below p q = elim (cases_eq w k) [
    | inl here ↦ at_last (rw here at p) (rw here at q)
    | inr other ↦
        let less : w < k = omega (arith, below, other) in
        grind (arith, p, q, closed_on k u w v less, closed_on k u w k less, closed_on k k w v less)
  ] where
    at_last : closed_below (suc k) has u k ≡ true → closed_below (suc k) has k v ≡ true
        → closed_below (suc k) has u v ≡ true
    at_last p q = grind arith

  module _ (count : ℕ) (within : LeadWithin count edges) where
    closed_along : (u w : ℕ) (more : List ℕ) → closed_below count has u w ≡ true → IsWalk edges w more
        → closed_below count has u (last_of w more) ≡ true
    closed_along u w [] p walk = p
    closed_along u w (v ∷ more) p walk =
        closed_along u v more
        (closed_on count u w v (within.within w v walk.0).0 p (closed_edge count w v walk.0)) walk.1

    reaches_closed : (u v : ℕ) → Reaches edges u v → closed_below count has u v ≡ true
    reaches_closed u v r =
        subst (λ w. closed_below count has u w ≡ true) r.ends
        (closed_along u r.next r.more (closed_edge count u r.next r.walk.0) r.walk.1)

    -- after all units the pairs are those that walks join
    pub closed_leads : closed_below count has ≡ leads edges
    closed_leads =
        same_pairs (closed_below count has) (leads edges)
        (λ u v. leads_is edges u v (closed_below count has u v) (closed_reaches count u v, reaches_closed u v))

-- of the edges
pub edges_closed : (count : ℕ) (edges : Edges) (has : ℕ → ℕ → Bool) → LeadWithin count edges → has ≡ edge_test edges
    → closed_below count has ≡ leads edges
edges_closed count edges has within is =
    ap (closed_below count) is ∙ closed_leads edges (edge_test edges) (edge_tells edges) count within

-- The decision whether a walk leads from one unit to another is right.
use Rattle.m51_graph.proofs.Common.{◌≡◌, ◌⊎◌, inl, inr, ℕ, Bool, ◌&&◌, ◌||◌, List, [], ◌∷◌, refl, sym, ap, subst, arith}
use Rattle.m51_graph.proofs.Common.{false≢true, Decides-eqb, Any-from_list_any, list_any_at, Decides, Contains}
use Rattle.m51_graph.proofs.Common.{list_any, contains_after, first_or_after, none_in_empty, reach_edge, Edges, HasEdge}
use Rattle.m51_graph.proofs.Common.{IsWalk, Reaches, last_of}
use Rattle.std.proofs.lemmas.Bool.Decides.{Decides-and, Decides-or, same_from_decides}
use Rattle.m51_module.proofs.Reach.{lead_on, reach_on, reach_from}
use Rattle.m51_graph.specs.Leading.{leads}

-- a walk, and then a longer one
pub reach_along : (edges : Edges) (u v : ℕ) (more : List ℕ) → Reaches edges u v → IsWalk edges v more
    → Reaches edges u (last_of v more)
reach_along edges u v [] r walk = r
reach_along edges u v (w ∷ more) r walk = reach_along edges u w more (reach_on edges u v w r walk.0) walk.1

pub reach_trans : (edges : Edges) (u v w : ℕ) → Reaches edges u v → Reaches edges v w → Reaches edges u w
reach_trans edges u v w one two =
    subst (λ x. Reaches edges u x) two.ends
    (reach_along edges u two.next two.more (reach_on edges u v two.next one two.walk.0) two.walk.1)

-- a walk stays one where there are more edges
walk_more : (edge : ℕ × ℕ) (edges : Edges) (u : ℕ) (more : List ℕ) → IsWalk edges u more → IsWalk (edge ∷ edges) u more
walk_more edge edges u [] walk = tt
walk_more edge edges u (v ∷ more) walk = (contains_after edge edges (u, v) walk.0, walk_more edge edges v more walk.1)

reach_more : (edge : ℕ × ℕ) (edges : Edges) (u v : ℕ) → Reaches edges u v → Reaches (edge ∷ edges) u v
reach_more edge edges u v r =
    record { next = r.next; more = r.more; walk = walk_more edge edges u (r.next ∷ r.more) r.walk; ends = r.ends }

-- the two are one unit, or the first reaches the second
abbrev Leads : Edges → ℕ → ℕ → Type 0
Leads edges u v = (u ≡ v) ⊎ Reaches edges u v

-- a walk does without the first edge, or consists of a part to it, the edge, and a part from it
abbrev Splits : ℕ × ℕ → Edges → ℕ → ℕ → Type 0
Splits edge edges u w = Reaches edges u w ⊎ (Leads edges u edge.0 × Leads edges edge.1 w)

-- an edge from u to v, and then a walk from v or nothing
leads_on : (edges : Edges) (u v w : ℕ) → HasEdge edges u v → Leads edges v w → Reaches edges u w
leads_on edges u v w e (inl same) = subst (λ x. Reaches edges u x) same (reach_edge edges u v e)
leads_on edges u v w e (inr r) = reach_from edges u v w e r

split_on : (edge : ℕ × ℕ) (edges : Edges) (u v w : ℕ) → HasEdge (edge ∷ edges) u v → Leads edges v w
    ⊎ (Leads edges v edge.0 × Leads edges edge.1 w) → Splits edge edges u w
split_on edge edges u v w e rest = elim (first_or_after edge edges (u, v) e) [
  | inl here ↦
      let from : u ≡ edge.0 = sym (ap (λ (p : ℕ × ℕ). p.0) here) in
      let to : v ≡ edge.1 = sym (ap (λ (p : ℕ × ℕ). p.1) here) in
      elim rest [
        | inl l ↦ inr (inl from, subst (λ x. Leads edges x w) to l)
        | inr both ↦ inr (inl from, both.1)
      ]
  | inr behind ↦ elim rest [
    | inl l ↦ inl (leads_on edges u v w behind l)
    | inr both ↦ inr (inr (leads_on edges u v edge.0 behind both.0), both.1)
  ]
]

widen : (edge : ℕ × ℕ) (edges : Edges) (u w : ℕ) → Splits edge edges u w → Leads edges u w
    ⊎ (Leads edges u edge.0 × Leads edges edge.1 w)
widen edge edges u w (inl r) = inl (inr r)
widen edge edges u w (inr both) = inr both

split_walk : (edge : ℕ × ℕ) (edges : Edges) (u v : ℕ) (more : List ℕ) → IsWalk (edge ∷ edges) u (v ∷ more)
    → Splits edge edges u (last_of v more)
split_walk edge edges u v [] walk = split_on edge edges u v v walk.0 (inl (inl refl))
split_walk edge edges u v (w ∷ more) walk =
    split_on edge edges u v (last_of w more) walk.0
    (widen edge edges v (last_of w more) (split_walk edge edges v w more walk.1))

split_reach : (edge : ℕ × ℕ) (edges : Edges) (u w : ℕ) → Reaches (edge ∷ edges) u w → Splits edge edges u w
split_reach edge edges u w r = subst (λ x. Splits edge edges u x) r.ends (split_walk edge edges u r.next r.more r.walk)

join_reach : (edge : ℕ × ℕ) (edges : Edges) (u w : ℕ) → Splits edge edges u w → Reaches (edge ∷ edges) u w
join_reach edge edges u w (inl r) = reach_more edge edges u w r
join_reach edge edges u w (inr both) =
    let here : HasEdge (edge ∷ edges) edge.0 edge.1 = (0, omega arith, refl) in
    let before = lead_on (edge ∷ edges) u edge.0 edge.1
    (elim both.0 [ inl same ↦ inl same | inr r ↦ inr (reach_more edge edges u edge.0 r) ]) here in
    elim both.1 [
      | inl same ↦ rw (← same) before
      | inr r ↦ reach_trans (edge ∷ edges) u edge.1 w before (reach_more edge edges edge.1 w r)
    ]

-- Bool tests as facts
pub or_decides : {P Q : Type 0} → (a b : Bool) → Decides a P → Decides b Q → Decides (a || b) (P ⊎ Q)
or_decides a b d e = Decides-or a b d e

pub and_decides : {P Q : Type 0} → (a b : Bool) → Decides a P → Decides b Q → Decides (a && b) (P × Q)
and_decides a b d e = Decides-and a b d e

pub any_decides : {X : Type 0} (p : X → Bool) (P : X → Type 0) → ((x : X) → Decides (p x) (P x)) → (xs : List X)
    → Decides (list_any p xs) ((x : X) × Contains xs x × P x)
any_decides p P each xs = (
  λ h. let any = Any-from_list_any p xs h in (any.1, (any.0, any.2, any.3), (each any.1).0 any.4),
  λ h. list_any_at p xs h.1.0 h.0 h.1.1 (rw h.1.2 ((each h.0).1 h.2)),
)

-- an edge by its ends
pub with_ends : (edges : Edges) (e : ℕ × ℕ) (u v : ℕ) → u ≡ e.0 → v ≡ e.1 → Contains edges e → Contains edges (u, v)
with_ends edges e u v from to h = rw (from, to) h

-- the decision is true exactly if a walk exists
pub leads_tells : (edges : Edges) (u w : ℕ) → Decides (leads edges u w) (Reaches edges u w)
unfolding leads
leads_tells [] u w = (λ h. absurd (false≢true h), λ r. absurd (none_in_empty (u, r.next) r.walk.0))
leads_tells (edge ∷ edges) u w =
    let split : Decides (leads (edge ∷ edges) u w) (Splits edge edges u w) =
    or_decides _ _ (leads_tells edges u w)
    (and_decides _ _ (or_decides _ _ (Decides-eqb u edge.0) (leads_tells edges u edge.0))
    (or_decides _ _ (Decides-eqb edge.1 w) (leads_tells edges edge.1 w))) in
    (λ h. join_reach edge edges u w (split.0 h), λ r. split.1 (split_reach edge edges u w r))

-- a value that is true exactly if a walk exists is that of the decision
pub leads_is : (edges : Edges) (u w : ℕ) (r : Bool) → Decides r (Reaches edges u w) → r ≡ leads edges u w
leads_is edges u w r d = same_from_decides r (leads edges u w) d (leads_tells edges u w)

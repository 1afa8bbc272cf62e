-- Walks that are extended.
use Rattle.std.proofs.Common.{arith, ◌≡◌, ◌⊎◌, inl, inr, ℕ, List, [], ◌∷◌, ◌++◌, refl}
use Rattle.m51_module.specs.Program.{ProgramGraph}
use Rattle.m51_module.specs.Walks.{Edges, HasEdge, IsWalk, last_of, Reaches}
use Rattle.m51_module.specs.Roots.{LiesUnder}

-- a walk with one more edge at its end
pub walk_on : (edges : Edges) (u : ℕ) (vs : List ℕ) (w : ℕ) → IsWalk edges u vs → HasEdge edges (last_of u vs) w
    → IsWalk edges u (vs ++ w ∷ [])
walk_on edges u [] w p h = (h, tt)
walk_on edges u (v ∷ vs) w p h = (p.0, walk_on edges v vs w p.1 h)

pub last_on : (u : ℕ) (vs : List ℕ) (w : ℕ) → last_of u (vs ++ w ∷ []) ≡ w
last_on u [] w = refl
last_on u (v ∷ vs) w = last_on v vs w

-- an edge is a walk
pub reach_edge : (edges : Edges) (u v : ℕ) → HasEdge edges u v → Reaches edges u v
reach_edge edges u v h = grind arith

-- a walk and then an edge
pub reach_on : (edges : Edges) (u v w : ℕ) → Reaches edges u v → HasEdge edges v w → Reaches edges u w
reach_on edges u v w r h = record {
  next = r.next;
  more = r.more ++ w ∷ [];
  walk = (r.walk.0, walk_on edges r.next r.more w r.walk.1 (grind arith));
  ends = last_on r.next r.more w;
}

-- an edge and then a walk
pub reach_from : (edges : Edges) (u v w : ℕ) → HasEdge edges u v → Reaches edges v w → Reaches edges u w
reach_from edges u v w h r = record { next = v; more = r.next ∷ r.more; walk = (h, r.walk); ends = r.ends }

-- the unit, or one that reaches it, and then an edge
pub lead_on : (edges : Edges) (u v w : ℕ) → (u ≡ v) ⊎ Reaches edges u v → HasEdge edges v w → Reaches edges u w
lead_on edges u v w (inl s) h = grind arith
lead_on edges u v w (inr r) h = reach_on edges u v w r h

-- what lies under a root, and then an edge
pub under_on : (g : ProgramGraph) (x u v : ℕ) → LiesUnder g x u → HasEdge g.edges u v → LiesUnder g x v
under_on g x u v h e = grind (arith, lead_on)

-- a root lies under itself
pub under_root : (g : ProgramGraph) (x u : ℕ) → g.IsRoot x u → LiesUnder g x u
under_root g x u h = grind arith

-- The test for an edge holds exactly if the edge exists.
use Rattle.std.proofs.Common.{arith, ◌≡◌, ◌⊎◌, ℕ, Bool, true, false, slice_index_or, subst}
use Rattle.std.specs.Prelude.{◌==◌, ◌&&◌, IsTrue, ◌↔◌}
use Rattle.std.specs.List.{Any}
use Rattle.std.proofs.lemmas.Bool.{and_parts, eqb-true}
use Rattle.std.proofs.lemmas.Bool.Decides.{same_from_decides}
use Rattle.std.proofs.lemmas.List.Folds.{Any-from_list_any, list_any-from_Any}
use Rattle.m51_cells.proofs.Small.{pair_is}
use Rattle.m51_module.specs.Walks.{Edges, HasEdge, has_edge}

pub edge_from_test : (edges : Edges) (from to : ℕ) → has_edge edges from to ≡ true → HasEdge edges from to
edge_from_test edges from to h = there (Any-from_list_any _ edges h) where
  there : Any (λ (edge : ℕ × ℕ). ((edge.0 == from) && (edge.1 == to)) ≡ true) edges → HasEdge edges from to
  there (k, edge, below, at, is) =
      let parts = and_parts (edge.0 == from) (edge.1 == to) is in
      let e = pair_is edge from to (eqb-true edge.0 from parts.0) (eqb-true edge.1 to parts.1) in
      (k, below, subst (λ (p : ℕ × ℕ). slice_index_or edges k p ≡ p) e at)

pub test_from_edge : (edges : Edges) (from to : ℕ) → HasEdge edges from to → has_edge edges from to ≡ true
test_from_edge edges from to h = grind (arith, list_any-from_Any)

-- so a result that is true exactly if the edge exists is that of the test
pub same_edge_test : (answer : Bool) (edges : Edges) (from to : ℕ) → (IsTrue answer ↔ HasEdge edges from to) → answer
    ≡ has_edge edges from to
same_edge_test answer edges from to h =
    same_from_decides {P = HasEdge edges from to} answer (has_edge edges from to) h
    (grind (arith, edge_from_test, test_from_edge))

-- the two cases of the test, each with what follows from it
pub edge_tells : (edges : Edges) (from to : ℕ)
    → ((has_edge edges from to ≡ true) × HasEdge edges from to)
    ⊎ ((has_edge edges from to ≡ false) × (HasEdge edges from to → ⊥))
edge_tells edges from to = grind (arith, edge_from_test, test_from_edge)

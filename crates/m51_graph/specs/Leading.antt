-- Whether one unit reaches another, decided along the list of edges.
use Rattle.std.specs.Prelude.{ℕ, Bool, false, ◌||◌, ◌&&◌, nat_eq, List, [], ◌∷◌}
use Rattle.m51_module.specs.Walks.{Edges}

-- A walk leads from the one unit to the other: either without the first edge, or by a part to that edge, the edge, and
-- a part from it, where each part is empty or a walk without the first edge.
unfoldable pub leads : Edges → ℕ → ℕ → Bool
leads [] from to = false
leads (edge ∷ more) from to =
    leads more from to || ((nat_eq from edge.0 || leads more from edge.0) && (nat_eq edge.1 to || leads more edge.1 to))

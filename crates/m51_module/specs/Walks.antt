-- Edges between units, and walks along them.
use Rattle.std.specs.Prelude.{◌≡◌, ℕ, Bool, ◌==◌, ◌&&◌, List, [], ◌∷◌}
use Rattle.std.specs.List.{Contains, list_any}

-- each edge: the unit that it leaves and the unit that it leads to
abbrev pub Edges : Type 0
Edges = List (ℕ × ℕ)

-- an edge leads from the first unit to the second
abbrev pub HasEdge : Edges → ℕ → ℕ → Type 0
HasEdge edges from to = Contains edges (from, to)

-- the same as a test
abbrev pub has_edge : Edges → ℕ → ℕ → Bool
has_edge edges from to = list_any (λ edge. (edge.0 == from) && (edge.1 == to)) edges

-- from the unit an edge leads to the first of these, and from each of them one to the next
abbrev pub IsWalk : Edges → ℕ → List ℕ → Type 0
IsWalk edges unit [] = Unit {0}
IsWalk edges unit (next ∷ more) = HasEdge edges unit next × IsWalk edges next more

-- the last of a unit and these
abbrev pub last_of : ℕ → List ℕ → ℕ
last_of unit [] = unit
last_of unit (next ∷ more) = last_of next more

-- A list of two or more units begins with the first unit, ends with the last, and has an edge between each two
-- neighbours: the list is the first unit, the next one and then more.
pub record Reaches (edges : Edges) (first last : ℕ) : Type 0 where
  pub next : ℕ
  pub more : List ℕ
  pub walk : IsWalk edges first (next ∷ more)
  pub ends : last_of next more ≡ last

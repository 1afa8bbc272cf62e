-- The levels of units.
use Rattle.std.specs.Prelude.{◌≡◌, ℕ, zero, suc, ◌<◌, ◌≤◌, Bool, true, not, ◌&&◌, nat_eq, List, length, find, unwrap_or}
use Rattle.std.specs.List.{list_any, range_with_len}
use Rattle.m51_module.specs.Walks.{Edges, IsWalk, last_of}

-- a walk of `count` edges ends in the unit
pub record EndsWalk (edges : Edges) (unit count : ℕ) : Type 0 where
  pub first : ℕ
  pub more : List ℕ
  pub walk : IsWalk edges first more
  pub ends : last_of first more ≡ unit
  pub count_is : length more ≡ count

-- the level of a unit is the number of edges of the longest walk that ends in it
pub record IsLevel (edges : Edges) (unit level : ℕ) : Type 0 where
  pub longest : EndsWalk edges unit level
  pub most : (count : ℕ) → EndsWalk edges unit count → count ≤ level

-- whether a walk of the given number of edges ends in the unit, decided along the list of edges by the last edge of the
-- walk
unfoldable pub ends_walk : Edges → ℕ → ℕ → Bool
ends_walk edges zero unit = true
ends_walk edges (suc count) unit = list_any (λ (edge : ℕ × ℕ). nat_eq edge.1 unit && ends_walk edges count edge.0) edges

-- the level as a function: the least number of edges such that no walk of one more ends in the unit
unfoldable pub level_of : Edges → ℕ → ℕ
level_of edges unit = unwrap_or (find (λ count. not (ends_walk edges (suc count) unit)) (range_with_len 0 65536)) 0

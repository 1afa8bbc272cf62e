-- Of the code: levels that climb along the edges until each edge leads to a higher one.
use Rattle.std.specs.Prelude.{◌≡◌, ℕ, ◌+◌, ◌<◌, ◌≤◌, Bool, true, false, List, length, sum, slice_index, slice_set}
use Rattle.m51_module.specs.Walks.{Edges, HasEdge}
use Rattle.m51_graph.specs.Levels.{EndsWalk}

-- each level is the number of edges of a walk that ends in its unit
pub record AreWalked (edges : Edges) (levels : List ℕ) : Type 0 where
  pub walked : (unit : ℕ) → unit < length levels → EndsWalk edges unit (slice_index levels unit)

-- each edge leads to a higher level
pub record AreSettled (edges : Edges) (levels : List ℕ) : Type 0 where
  pub higher : (u v : ℕ) → HasEdge edges u v → slice_index levels u < slice_index levels v

-- Levels climbed along the first of the edges: where none rose, each of these edges leads to a higher one.
pub record IsClimbing (edges done : Edges) (old new : List ℕ) (rose : Bool) : Type 0 where
  pub len : length new ≡ length old
  pub walked : AreWalked edges new
  pub settled : rose ≡ false → AreSettled done new
  pub not_less : sum old ≤ sum new
  pub more : rose ≡ true → sum old < sum new

-- the upper level is raised to one above the lower, unless it is above the lower already
abbrev pub Lifts : ℕ → ℕ → List ℕ → List ℕ → Bool → Type 0
Lifts lower upper old new true =
    (slice_index old upper < slice_index old lower + 1) × (new ≡ slice_set old upper (slice_index old lower + 1))
Lifts lower upper old new false = (slice_index old lower < slice_index old upper) × (new ≡ old)

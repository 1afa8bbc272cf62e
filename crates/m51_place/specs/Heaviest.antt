-- Of the code: how the heaviest walks are found, for each unit one number, the bytes of the heaviest walk from it.
use Rattle.std.specs.Prelude.{◌≡◌, ◌≢◌, ℕ, ◌+◌, ◌<◌, ◌≤◌, Bool, true, false, nat_lt, if◌then◌else◌, List, [], ◌∷◌}
use Rattle.std.specs.Prelude.{◌++◌, length, sum, slice_index, slice_set, Option, Some, None}
use Rattle.m51_module.specs.declared.parts.LayoutParts.{LayoutParts}
use Rattle.m51_module.specs.Chains.{weight_along, weight_of}
use Rattle.m51_module.specs.Walks.{Edges, HasEdge, IsWalk}

-- a walk from the unit has `bytes` bytes
pub record HasWalk (l : LayoutParts) (unit bytes : ℕ) : Type 0 where
  pub more : List ℕ
  pub walk : IsWalk l.edges unit more
  pub bytes_are : bytes ≡ weight_along l (unit ∷ more)

-- the bytes of each unit
pub record AreWeights (l : LayoutParts) (weights : List ℕ) : Type 0 where
  pub len : length weights ≡ length l.units
  pub each : (unit : ℕ) → unit < length weights → slice_index weights unit ≡ weight_of l unit

-- each number is the bytes of a walk from its unit
pub record AreReached (l : LayoutParts) (best : List ℕ) : Type 0 where
  pub len : length best ≡ length l.units
  pub each : (unit : ℕ) → unit < length best → HasWalk l unit (slice_index best unit)

-- no edge leads to a heavier walk
pub record AreTop (l : LayoutParts) (edges : Edges) (best : List ℕ) : Type 0 where
  pub top : (u v : ℕ) → HasEdge edges u v → weight_of l u + slice_index best v ≤ slice_index best u

-- numbers raised along the first of the edges: where none rose, none of these edges leads to a heavier walk
pub record IsRising (l : LayoutParts) (done : Edges) (old new : List ℕ) (rose : Bool) : Type 0 where
  pub reached : AreReached l new
  pub top : rose ≡ false → AreTop l done new
  pub not_less : sum old ≤ sum new
  pub more : rose ≡ true → sum old < sum new

-- the numbers of the heaviest walks
pub record AreBest (l : LayoutParts) (best : List ℕ) : Type 0 where
  pub reached : AreReached l best
  pub top : AreTop l l.edges best

-- what is known where one unit is lifted along an edge
pub record HasRoom (l : LayoutParts) (weights best : List ℕ) (from to : ℕ) : Type 0 where
  pub in_weights : from < length weights
  pub from_in : from < length best
  pub to_in : to < length best
  pub weight : slice_index weights from ≡ weight_of l from
  pub most : weight_of l from + slice_index best to ≤ 256

-- one number rises to the bytes of the walk along an edge, unless it has as many
abbrev pub Lifts : LayoutParts → ℕ → ℕ → List ℕ → List ℕ → Bool → Type 0
Lifts l u v old new true =
    (slice_index old u < weight_of l u + slice_index old v)
    × (new ≡ slice_set old u (weight_of l u + slice_index old v))
Lifts l u v old new false = (weight_of l u + slice_index old v ≤ slice_index old u) × (new ≡ old)

-- `v` follows `u` in the heaviest walk, as far as these edges lead: it is the least of the units to which one of them
-- leads from `u` and whose heaviest walk has, with the bytes of `u`, as many bytes as that from `u`
pub record IsNext (l : LayoutParts) (edges : Edges) (best : List ℕ) (u v : ℕ) : Type 0 where
  pub edge : HasEdge edges u v
  pub rest : weight_of l u + slice_index best v ≡ slice_index best u
  pub least : (w : ℕ) → w < v → HasEdge edges u w → weight_of l u + slice_index best w ≢ slice_index best u

-- the unit that follows `u`, as far as these edges lead; none, if none of them leads from `u` to such a unit
abbrev pub IsNextAmong : LayoutParts → Edges → List ℕ → ℕ → Option ℕ → Type 0
IsNextAmong l edges best u None =
    (v : ℕ) → HasEdge edges u v → weight_of l u + slice_index best v ≢ slice_index best u
IsNextAmong l edges best u (Some v) = IsNext l edges best u v

-- the walk from the unit that is extended as long as that adds bytes
abbrev pub FollowsHeaviest : LayoutParts → List ℕ → ℕ → List ℕ → Type 0
FollowsHeaviest l best u [] = slice_index best u ≡ weight_of l u
FollowsHeaviest l best u (v ∷ more) = (slice_index best u ≢ weight_of l u) × IsNext l l.edges best u v
    × FollowsHeaviest l best v more

-- the edge leads from the unit to one whose heaviest walk has, with the bytes of the unit, as many bytes as that from
-- the unit
pub record LeadsOn (weights best : List ℕ) (unit : ℕ) (edge : ℕ × ℕ) : Type 0 where
  pub from : edge.0 ≡ unit
  pub rest : slice_index weights unit + slice_index best edge.1 ≡ slice_index best unit

-- the lesser of a unit and the one that was found
abbrev pub lesser : Option ℕ → ℕ → ℕ
lesser None unit = unit
lesser (Some other) unit = if nat_lt other unit then other else unit

-- the walk ends in the unit, or continues to the next
abbrev pub Steps : LayoutParts → List ℕ → ℕ → Option ℕ → Type 0
Steps l best unit None = slice_index best unit ≡ weight_of l unit
Steps l best unit (Some v) = (slice_index best unit ≢ weight_of l unit) × IsNext l l.edges best unit v

-- the first units of the walk from a root, of which the last is this one
pub record IsFront (l : LayoutParts) (best : List ℕ) (root unit : ℕ) (units : List ℕ) : Type 0 where
  pub front : List ℕ
  pub are : units ≡ root ∷ front
  pub goes : (more : List ℕ) → FollowsHeaviest l best unit more → FollowsHeaviest l best root (front ++ more)
  pub below : unit < length l.units

-- the units of the heaviest walk from a root
pub record IsHeaviestFrom (l : LayoutParts) (best : List ℕ) (root : ℕ) (units : List ℕ) : Type 0 where
  pub more : List ℕ
  pub are : units ≡ root ∷ more
  pub goes : FollowsHeaviest l best root more

-- The search for the points of a program.
use Rattle.std.specs.Prelude.{◌≡◌, ◌≢◌, ◌⊎◌, ℕ, ◌<◌, ◌≤◌, List, [], ◌∷◌, ◌++◌, length, Option, Some, None}
use Rattle.std.specs.List.{AllPairs, Contains}
use Rattle.m51_cells.specs.declared.limits.TheConstants.{MOST_POINTS}
use Rattle.m51_module.specs.declared.parts.LayoutParts.{LayoutParts}
use Rattle.m51_stackbound.specs.declared.point.Point.{Point}
use Rattle.m51_stackbound.specs.Points.{IsReached, first_points}

-- a point is added, unless it is in the list
abbrev pub Notes : List Point → Point → List Point → Type 0
Notes old p new = ((new ≡ old) × Contains old p) ⊎ ((new ≡ old ++ p ∷ []) × (Contains old p → ⊥))

-- these points are added one after another, each unless it is in the list
abbrev pub NotesAll : List Point → List Point → List Point → Type 0
NotesAll old [] new = new ≡ old
NotesAll old (p ∷ ps) new = (middle : List Point) × Notes old p middle × NotesAll middle ps new

-- no point is in the list twice
abbrev pub AreDifferent : List Point → Type 0
AreDifferent ps = AllPairs (λ p q. p ≢ q) ps

-- the list has what is reached from the first points, each point once, and they are not too many
pub record AreReached (l : LayoutParts) (image : List ℕ) (firsts points : List Point) : Type 0 where
  pub only : (p : Point) → Contains points p → IsReached l image firsts p
  pub all : (p : Point) → IsReached l image firsts p → Contains points p
  pub different : AreDifferent points
  pub few : length points ≤ MOST_POINTS

-- more points are reached
pub record AreTooMany (l : LayoutParts) (image : List ℕ) (firsts : List Point) : Type 0 where
  pub points : List Point
  pub only : (p : Point) → Contains points p → IsReached l image firsts p
  pub different : AreDifferent points
  pub many : MOST_POINTS < length points

-- what a search from the first points answers: all that is reached, or nothing where that is too much
abbrev pub Finds : LayoutParts → List ℕ → List Point → Option (List Point) → Type 0
Finds l image firsts (Some points) = AreReached l image firsts points
Finds l image firsts None = AreTooMany l image firsts

-- the list has the points of the program, each once, and they are not too many
abbrev pub ArePoints : LayoutParts → List ℕ → List Point → Type 0
ArePoints l image = AreReached l image (first_points l)

-- the program has too many points
abbrev pub HasTooMany : LayoutParts → List ℕ → Type 0
HasTooMany l image = AreTooMany l image (first_points l)

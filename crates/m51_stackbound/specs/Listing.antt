-- The starts of a program in a table by addresses, and their list. Private contracts cite it.
use Rattle.std.specs.Prelude.{◌≡◌, ℕ, ◌<◌, Bool, true, false, List, length, map, slice_index_or, slice_set}
use Rattle.std.specs.List.{Contains}
use Rattle.m51_module.specs.declared.parts.LayoutParts.{LayoutParts}
use Rattle.m51_module.specs.declared.stack_bound.Proc.{Proc}
use Rattle.m51_module.specs.declared.start.Start.{Start}
use Rattle.m51_module.specs.declared.start.Start.TheVariants.{Reset, At}
use Rattle.m51_module.specs.Plan.{IsUnitAt}
use Rattle.m51_module.specs.Rising.{Rises}
use Rattle.m51_stackbound.specs.declared.point.Point.{Point}
use Rattle.m51_stackbound.specs.Climb.{depth_in}

-- the table has a start at the address
abbrev pub is_noted : List Bool → ℕ → Bool
is_noted starts at = slice_index_or starts at false

-- a start other than the reset is noted
abbrev pub with_start : List Bool → Start → List Bool
with_start starts Reset = starts
with_start starts (At at) = slice_set starts at true

-- one of the points is of the start at the address
pub record HasStart (points : List Point) (at : ℕ) : Type 0 where
  pub point : Point
  pub listed : Contains points point
  pub start_is : point.start ≡ At at

-- the table has the starts of these points
pub record AreStarts (points : List Point) (starts : List Bool) : Type 0 where
  pub len : length starts ≡ 65536
  pub only : (at : ℕ) → is_noted starts at ≡ true → HasStart points at
  pub all : (at : ℕ) → HasStart points at → is_noted starts at ≡ true

-- a start that the table has, with its unit and depth
pub record IsListed (l : LayoutParts) (starts : List Bool) (depths : List ℕ) (p : Proc) : Type 0 where
  pub noted : is_noted starts p.at ≡ true
  pub unit : IsUnitAt l p.at p.unit
  pub depth : p.depth ≡ depth_in depths (At p.at)

-- the starts below an address, by their addresses
pub record AreListed
    (l : LayoutParts) (starts : List Bool) (depths : List ℕ) (end : ℕ) (procs : List Proc)
    : Type 0 where
  pub rising : Rises (map (λ p. p.at) procs)
  pub below : (p : Proc) → Contains procs p → p.at < end
  pub each : (p : Proc) → Contains procs p → IsListed l starts depths p
  pub all : (at : ℕ) → at < end → is_noted starts at ≡ true → Contains (map (λ p. p.at) procs) at

-- Calls between starts, the depth of a start and its path.
use Rattle.std.specs.Prelude.{◌≡◌, ◌⊎◌, ℕ, ◌+◌, ◌<◌, ◌≤◌, List, [], ◌∷◌, Some}
use Rattle.m51_module.specs.declared.parts.LayoutParts.{LayoutParts}
use Rattle.m51_stackbound.specs.declared.point.Point.{Point}
use Rattle.m51_module.specs.declared.start.Start.{Start}
use Rattle.m51_module.specs.declared.start.Start.TheVariants.{At}
use Rattle.m51_stackbound.specs.Points.{IsPoint, call_of}
use Rattle.m51_stackbound.specs.Rules.{rank}

-- a point of the start has the height
pub record HasHeight (l : LayoutParts) (image : List ℕ) (start : Start) (height : ℕ) : Type 0 where
  pub point : Point
  pub is_point : IsPoint l image point
  pub start_is : point.start ≡ start
  pub height_is : point.height ≡ height

-- a point of the start, with the height, is a call of the start at that address
pub record CallsAt (l : LayoutParts) (image : List ℕ) (start : Start) (height to : ℕ) : Type 0 where
  pub point : Point
  pub is_point : IsPoint l image point
  pub start_is : point.start ≡ start
  pub height_is : point.height ≡ height
  pub calls : call_of l image point ≡ Some to

-- a call of the start at that address, at some height
abbrev pub Calls : LayoutParts → List ℕ → Start → ℕ → Type 0
Calls l image start to = (height : ℕ) × CallsAt l image start height to

-- the start calls the start at that address, directly or through others
pub data CallsThrough (l : LayoutParts) (image : List ℕ) (start : Start) : ℕ → Type 0 where
  Direct : (to : ℕ) → Calls l image start to → CallsThrough l image start to
  Through : (via to : ℕ) → CallsThrough l image start via → Calls l image (At via) to → CallsThrough l image start to

-- The starts after the first, each called by the one before it, take this number of bytes of stack: each call its
-- height and two for the return address, and the last start the height of one of its points.
pub data Takes (l : LayoutParts) (image : List ℕ) : Start → List Start → ℕ → Type 0 where
  Own : (start : Start) (height : ℕ) → HasHeight l image start height → Takes l image start [] height
  Call : (start : Start) (height to : ℕ) (more : List Start) (bytes : ℕ)
      → CallsAt l image start height to → Takes l image (At to) more bytes
      → Takes l image start (At to ∷ more) (height + 2 + bytes)

-- the depth of a start: the most that it and what it calls take
pub record IsDepth (l : LayoutParts) (image : List ℕ) (start : Start) (depth : ℕ) : Type 0 where
  pub path : List Start
  pub takes : Takes l image start path depth
  pub most : (other : List Start) (bytes : ℕ) → Takes l image start other bytes → bytes ≤ depth

-- the first list of starts comes first, a prefix before what it begins
abbrev pub ComesFirst : List Start → List Start → Type 0
ComesFirst [] other = Unit {0}
ComesFirst (s ∷ more) [] = ⊥
ComesFirst (s ∷ more) (t ∷ other) = (rank s < rank t) ⊎ ((s ≡ t) × ComesFirst more other)

-- the starts from this one on that give its depth; of several such lists the one that comes first
pub record IsPath (l : LayoutParts) (image : List ℕ) (start : Start) (path : List Start) : Type 0 where
  pub depth : ℕ
  pub is_depth : IsDepth l image start depth
  pub more : List Start
  pub path_is : path ≡ start ∷ more
  pub takes : Takes l image start more depth
  pub first : (other : List Start) → Takes l image start other depth → ComesFirst more other

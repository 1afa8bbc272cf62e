-- What the cells hold after some segments turned live, or died.
use Rattle.std.specs.Prelude.{◌≡◌, ◌⊎◌, ℕ, ◌<◌, true, false, List, length, slice_index}
use Rattle.m51_cells.specs.declared.cell.Cell.{Cell}
use Rattle.m51_cells.specs.Extent.{Covers}
use Rattle.m51_module.specs.declared.parts.LayoutParts.{LayoutParts}
use Rattle.m51_module.specs.declared.placed.Placed.{Placed}
use Rattle.m51_module.specs.Cells.{extent_at}
use Rattle.m51_module.specs.Plan.{IsPlaced, IsOverlaid, Owns}
use Rattle.m51_flat.specs.States.{CellState}
use Rattle.m51_cells.specs.Cells.{IsDataCell}
use Rattle.m51_monitor.specs.Shared.{Shared, cell_state}
use Rattle.m51_monitor.specs.Stores.{Live}

-- A cell under one of these segments has turned, and one under none of them is as before.
pub data Turned (l : LayoutParts) (Is : ℕ → Type 0) (to : CellState) (c : Cell) (old new : CellState) : Type 0 where
  Under : (t : ℕ) → Is t → (p : Placed) → IsPlaced l t p → Covers (extent_at p) c → new ≡ to → Turned l Is to c old new
  Beside : ((t : ℕ) → Is t → (p : Placed) → IsPlaced l t p → Covers (extent_at p) c → ⊥) → new ≡ old
      → Turned l Is to c old new

pub record AreTurned (l : LayoutParts) (Is : ℕ → Type 0) (to : CellState) (old new : Shared) : Type 0 where
  pub cell : (c : Cell) → IsDataCell c → Turned l Is to c (cell_state old c) (cell_state new c)

-- a segment that the unit owns, and that nothing holds by these numbers of holders
pub record IsLocalOf (l : LayoutParts) (holders : List ℕ) (unit t : ℕ) : Type 0 where
  pub owns : Owns l unit t
  pub free : slice_index holders t ≡ 0

-- the same among the first of these segments
pub record IsLocalAmong (holders locals : List ℕ) (count t : ℕ) : Type 0 where
  pub index : ℕ
  pub below : index < count
  pub inside : index < length locals
  pub is : slice_index locals index ≡ t
  pub free : slice_index holders t ≡ 0

-- an overlaid segment among the first ones, of this count
pub record IsOverlaidAmong (l : LayoutParts) (count t : ℕ) : Type 0 where
  pub below : t < count
  pub overlaid : IsOverlaid l t

-- Between two times of which the second has more live segments, these are the ones that only the second has.
pub record AreBetween (l : LayoutParts) (Is : ℕ → Type 0) (fewer more : Live) : Type 0 where
  pub overlaid : (t : ℕ) → Is t → IsOverlaid l t
  pub each : (t : ℕ) → (Is t × (fewer t ≡ false) × (more t ≡ true)) ⊎ ((Is t → ⊥) × (more t ≡ fewer t))

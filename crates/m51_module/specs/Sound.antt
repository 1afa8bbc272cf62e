-- Which layouts are sound.
use Rattle.std.specs.Prelude.{◌≡◌, ◌≢◌, ℕ, ◌^◌, ◌<◌, ◌≤◌, List, ◌∷◌, length, slice_get, Some}
use Rattle.std.specs.List.{Contains}
use Rattle.m51_cells.specs.declared.cell.Cell.{Cell}
use Rattle.m51_cells.specs.declared.extent.Extent.{Extent}
use Rattle.m51_cells.specs.declared.kind.Kind.TheVariants.{Code, Number}
use Rattle.m51_cells.specs.declared.limits.TheConstants.{MOST_UNITS}
use Rattle.m51_cells.specs.Cells.{cells_in}
use Rattle.m51_cells.specs.Extent.{Covers, Meet}
use Rattle.m51_module.specs.declared.parts.LayoutParts.{LayoutParts}
use Rattle.m51_module.specs.declared.placed.Mark.TheVariants.{Absolute, Overlaid}
use Rattle.m51_module.specs.declared.placed.Placed.{Placed}
use Rattle.m51_module.specs.Cells.{extent_at}
use Rattle.m51_module.specs.Walks.{HasEdge, Reaches}
use Rattle.m51_module.specs.Rising.{Rises}
use Rattle.m51_module.specs.Plan.{IsCodeSegment, IsPlaced, IsOverlaid, owners_of, Owns, UnitLiesUnder, ExtentsConflict}

-- all of its cells are cells of its memory
abbrev pub IsInside : Extent → Type 0
IsInside e = (c : Cell) → Covers e c → c.at < cells_in e.space

-- what one placed extent may be
pub record IsFit (p : Placed) : Type 0 where
  pub kind : p.kind ≢ Number
  pub inside : IsInside (extent_at p)
  pub absolute : p.mark ≡ Absolute → 0 < p.size
  pub code : p.kind ≡ Code → p.mark ≢ Overlaid

-- The owners of an overlaid segment: its own unit, and then others, ascending and different from it. An argument
-- segment has others, the units that call its own.
pub record HasOwners (owners : List ℕ) : Type 0 where
  pub own : ℕ
  pub others : List ℕ
  pub are : owners ≡ own ∷ others
  pub rising : Rises others
  pub different : Contains others own → ⊥

-- A layout is sound.
pub record IsSound (l : LayoutParts) : Type 0 where
  pub fit : (s : ℕ) (p : Placed) → IsPlaced l s p → IsFit p
  -- the units are the segments of program memory, each once
  pub is_code : (u s : ℕ) → slice_get l.units u ≡ Some s → (p : Placed) × IsPlaced l s p × IsCodeSegment p
  pub is_unit : (s : ℕ) (p : Placed) → IsPlaced l s p → IsCodeSegment p → Contains l.units s
  pub once : (u v s : ℕ) → slice_get l.units u ≡ Some s → slice_get l.units v ≡ Some s → u ≡ v
  pub few_units : length l.units ≤ MOST_UNITS
  -- extents have numbers of two bytes
  pub few_placed : length l.placed < 2 ^ 16
  -- edges lead from units to units, and no unit reaches itself
  pub edges : (u v : ℕ) → HasEdge l.edges u v → (u < length l.units) × (v < length l.units)
  pub no_cycle : (u : ℕ) → Reaches l.edges u u → ⊥
  -- only overlaid segments have owners, which are units, and each overlaid segment has them
  pub owned : (u s : ℕ) → Owns l u s → (u < length l.units) × IsOverlaid l s
  pub owners : (s : ℕ) → IsOverlaid l s → HasOwners (owners_of l.owners s)
  -- each owner lies under at most one root
  pub one_root : (s u x y : ℕ) → Owns l u s → UnitLiesUnder l x u → UnitLiesUnder l y u → x ≡ y
  -- extents in conflict share no cell
  pub apart : (s t : ℕ) (p q : Placed) → IsPlaced l s p → IsPlaced l t q → s ≢ t → ExtentsConflict l s t
      → Meet (extent_at p) (extent_at q) → ⊥

-- What the parts of a layout say: its units, roots, owners and locals.
use Rattle.std.specs.Prelude.{◌≡◌, ℕ, ◌==◌, List, map, slice_get, Some, ◌↔◌}
use Rattle.std.specs.List.{Contains, filter}
use Rattle.m51_cells.specs.declared.kind.Kind.TheVariants.{Code}
use Rattle.m51_cells.specs.Extent.{Covers}
use Rattle.m51_module.specs.Cells.{extent_at, code_cell}
use Rattle.m51_module.specs.declared.parts.LayoutParts.{LayoutParts}
use Rattle.m51_module.specs.declared.placed.Mark.{Mark}
use Rattle.m51_module.specs.declared.placed.Mark.TheVariants.{Bank, Reserve, Absolute, Plain, Overlaid}
use Rattle.m51_module.specs.declared.placed.Placed.{Placed}
use Rattle.m51_module.specs.Roots.{vectors, LiesUnder}
use Rattle.m51_module.specs.Conflict.{AreRelated, InConflict}
use Rattle.m51_module.specs.Program.{ProgramGraph}
use Rattle.m51_module.specs.Rising.{Rises}

-- the extent is a segment, and no bank or reserve
abbrev pub IsSegment : Mark → Type 0
IsSegment Bank = ⊥
IsSegment Reserve = ⊥
IsSegment Absolute = Unit {0}
IsSegment Plain = Unit {0}
IsSegment Overlaid = Unit {0}

-- it is a segment of program memory
pub record IsCodeSegment (p : Placed) : Type 0 where
  pub kind : p.kind ≡ Code
  pub segment : IsSegment p.mark

-- the placed extent of that number
abbrev pub IsPlaced : LayoutParts → ℕ → Placed → Type 0
IsPlaced l number p = slice_get l.placed number ≡ Some p

-- the unit is this placed extent
pub record IsUnit (l : LayoutParts) (unit : ℕ) (p : Placed) : Type 0 where
  pub segment : ℕ
  pub unit_is : slice_get l.units unit ≡ Some segment
  pub placed : IsPlaced l segment p

-- the extent of that number is an overlaid segment
abbrev pub IsOverlaid : LayoutParts → ℕ → Type 0
IsOverlaid l number = (p : Placed) × IsPlaced l number p × (p.mark ≡ Overlaid)

-- the owners of a segment, in the order of their pairs
abbrev pub owners_of : List (ℕ × ℕ) → ℕ → List ℕ
owners_of owners segment = map (λ pair. pair.1) (filter (λ pair. pair.0 == segment) owners)

-- the unit owns the segment
abbrev pub Owns : LayoutParts → ℕ → ℕ → Type 0
Owns l unit segment = Contains (owners_of l.owners segment) unit

-- these are the overlaid segments that the unit owns, ascending
pub record AreLocals (l : LayoutParts) (unit : ℕ) (segments : List ℕ) : Type 0 where
  pub rising : Rises segments
  pub owned : (s : ℕ) → Contains segments s ↔ Owns l unit s

-- the unit is the root at this vector: an absolute segment of program memory that begins there
pub record IsRootAt (l : LayoutParts) (vector unit : ℕ) : Type 0 where
  pub vector_is : Contains vectors vector
  pub is : Placed
  pub unit_is : IsUnit l unit is
  pub code : is.kind ≡ Code
  pub absolute : is.mark ≡ Absolute
  pub base : is.base ≡ vector

-- the unit covers the address
pub record IsUnitAt (l : LayoutParts) (address unit : ℕ) : Type 0 where
  pub is : Placed
  pub unit_is : IsUnit l unit is
  pub covers : Covers (extent_at is) (code_cell address)

-- the layout's graph: edges and roots are of its units, owners and what is overlaid of its placed extents
abbrev pub layout_graph : LayoutParts → ProgramGraph
layout_graph l = record { edges = l.edges; IsRoot = IsRootAt l; Owns = Owns l; IsOverlaid = IsOverlaid l }

-- the unit lies under the root at this vector
abbrev pub UnitLiesUnder : LayoutParts → ℕ → ℕ → Type 0
UnitLiesUnder l vector unit = LiesUnder (layout_graph l) vector unit

-- the two units may be active together
abbrev pub UnitsRelated : LayoutParts → ℕ → ℕ → Type 0
UnitsRelated l one two = AreRelated (layout_graph l) one two

-- the two extents must not share a cell
abbrev pub ExtentsConflict : LayoutParts → ℕ → ℕ → Type 0
ExtentsConflict l s t = InConflict (layout_graph l) s t

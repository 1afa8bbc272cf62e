-- What a graph says of its units and segments.
use Rattle.std.specs.Prelude.{◌≡◌, ◌⊎◌, ℕ, ◌/◌, ◌%◌, ◌<◌, ◌≤◌, ◌↔◌, true, List, [], ◌∷◌, length, slice_get, Some}
use Rattle.std.specs.List.{Contains}
use Rattle.m51_cells.specs.declared.limits.TheConstants.{MOST_UNITS}
use Rattle.m51_module.specs.Conflict.{InConflict}
use Rattle.m51_module.specs.Program.{ProgramGraph}
use Rattle.m51_module.specs.Roots.{vectors, LiesUnder}
use Rattle.m51_module.specs.Walks.{Edges, HasEdge, Reaches}
use Rattle.m51_graph.specs.declared.parts.GraphParts.{GraphParts}

-- both units of each edge are below `count`
pub record LeadWithin (count : ℕ) (edges : Edges) : Type 0 where
  pub within : (u v : ℕ) → HasEdge edges u v → (u < count) × (v < count)

-- the unit is a root at this vector
abbrev pub IsRootAt : GraphParts → ℕ → ℕ → Type 0
IsRootAt g vector unit = Contains g.roots (vector, unit)

-- the joined segment of that number is an overlaid local or the overlaid argument segment of the unit, which is its own
abbrev pub IsOwn : GraphParts → ℕ → ℕ → Type 0
IsOwn g unit segment = slice_get g.own segment ≡ Some (Some unit)

-- the joined segment is an argument segment
abbrev pub IsArgument : GraphParts → ℕ → Type 0
IsArgument g segment = slice_get g.arguments segment ≡ Some true

-- The unit owns the overlaid segment: it is the segment's own one, or the segment is an argument segment, and an edge
-- leads from the unit to its own one, since who calls a unit fills its arguments before.
pub record Owns (g : GraphParts) (unit segment : ℕ) : Type 0 where
  pub own : ℕ
  pub own_is : IsOwn g own segment
  pub owner : (unit ≡ own) ⊎ (IsArgument g segment × HasEdge g.edges unit own)

-- the joined segment is overlaid: it has an own unit
abbrev pub IsOverlaid : GraphParts → ℕ → Type 0
IsOverlaid g segment = (unit : ℕ) × IsOwn g unit segment

-- the program of the parts: its segments are the joined ones
abbrev pub joined_graph : GraphParts → ProgramGraph
joined_graph g = record { edges = g.edges; IsRoot = IsRootAt g; Owns = Owns g; IsOverlaid = IsOverlaid g }

-- the unit lies under a root at this vector
abbrev pub UnitLiesUnder : GraphParts → ℕ → ℕ → Type 0
UnitLiesUnder g vector unit = LiesUnder (joined_graph g) vector unit

-- the two joined segments must not share a cell
abbrev pub SegmentsConflict : GraphParts → ℕ → ℕ → Type 0
SegmentsConflict g s t = InConflict (joined_graph g) s t

-- The lowest bit is set exactly if the unit lies under a root at the first of these vectors, the next bit if it lies
-- under one at the next, and so on; no further bit is set.
abbrev pub AreBits : GraphParts → ℕ → List ℕ → ℕ → Type 0
AreBits g unit [] bits = bits ≡ 0
AreBits g unit (vector ∷ more) bits = (bits % 2 ≡ 1 ↔ UnitLiesUnder g vector unit) × AreBits g unit more (bits / 2)

-- bit 0 is for the reset, bits 1 to 6 for the interrupts
abbrev pub AreRootBits : GraphParts → ℕ → ℕ → Type 0
AreRootBits g unit bits = AreBits g unit vectors bits

-- edges, roots and owners are of units, of which there are at most 1,000
pub record AreOfUnits (g : GraphParts) : Type 0 where
  pub few_units : length g.units ≤ MOST_UNITS
  pub edges : LeadWithin (length g.units) g.edges
  pub roots : (vector unit : ℕ) → IsRootAt g vector unit → Contains vectors vector × (unit < length g.units)
  pub own : (unit segment : ℕ) → IsOwn g unit segment → unit < length g.units
  pub arguments : length g.arguments ≡ length g.own

-- what every graph keeps: no unit reaches itself, and an owner lies under at most one root
pub record IsGraph (g : GraphParts) : Type 0 where
  pub units : AreOfUnits g
  pub no_cycle : (u : ℕ) → Reaches g.edges u u → ⊥
  pub one_root : (segment unit x y : ℕ) → Owns g unit segment → UnitLiesUnder g x unit → UnitLiesUnder g y unit → x ≡ y

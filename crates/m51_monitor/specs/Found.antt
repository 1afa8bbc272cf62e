-- The unit at an address and the root at a vector, as functions.
use Rattle.std.specs.Prelude.{ℕ, ◌+◌, Bool, true, false, ◌&&◌, nat_eq, if◌then◌else◌, Option, Some, None, List, []}
use Rattle.std.specs.Prelude.{◌∷◌, slice_get}
use Rattle.m51_cells.specs.Kinds.{is_code}
use Rattle.m51_flat.specs.declared.state.Transfer.{Transfer}
use Rattle.m51_flat.specs.declared.state.Transfer.TheVariants.{Vector}
use Rattle.m51_module.specs.declared.parts.LayoutParts.{LayoutParts}
use Rattle.m51_module.specs.declared.placed.Mark.{Mark}
use Rattle.m51_module.specs.declared.placed.Mark.TheVariants.{Absolute}
use Rattle.m51_module.specs.declared.placed.Placed.{Placed}
use Rattle.m51_module.specs.Cells.{extent_at, code_cell}
use Rattle.m51_monitor.specs.Stores.{covers}
use Rattle.m51_flat.specs.Vectors.{vector_of}

-- a test of the extent that a unit is
abbrev pub extent_meets : (Placed → Bool) → Option Placed → Bool
extent_meets test None = false
extent_meets test (Some p) = test p

abbrev pub extent_passes : List Placed → (Placed → Bool) → Option ℕ → Bool
extent_passes placed test None = false
extent_passes placed test (Some s) = extent_meets test (slice_get placed s)

-- the first of these units, counted from a number on, whose extent passes the test
abbrev pub first_unit : List Placed → (Placed → Bool) → List ℕ → ℕ → Option ℕ
first_unit placed test [] number = None
first_unit placed test (s ∷ more) number =
    if extent_passes placed test (Some s) then Some number else first_unit placed test more (number + 1)

-- the extent covers the address
abbrev pub covers_address : ℕ → Placed → Bool
covers_address address p = covers (extent_at p) (code_cell address)

-- the unit that covers the address
abbrev pub unit_found : LayoutParts → ℕ → Option ℕ
unit_found l address = first_unit l.placed (covers_address address) l.units 0

abbrev pub is_absolute_mark : Mark → Bool
is_absolute_mark Absolute = true
is_absolute_mark other = false

-- the extent is an absolute segment of program memory that begins at the vector
abbrev pub begins_at : ℕ → Placed → Bool
begins_at vector p = is_code p.kind && (is_absolute_mark p.mark && nat_eq p.base vector)

-- the root of an interrupt
abbrev pub root_found : LayoutParts → Transfer → Option ℕ
root_found l (Vector source) = first_unit l.placed (begins_at (vector_of source)) l.units 0
root_found l other = None

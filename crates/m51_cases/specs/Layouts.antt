-- A layout with three roots, which shows how calls, jumps and interrupts change what is live.
use Rattle.std.specs.Prelude.{ℕ, List, [], ◌∷◌}
use Rattle.m51_cells.specs.declared.kind.Kind.{Kind}
use Rattle.m51_cells.specs.declared.kind.Kind.TheVariants.{Code, Direct, Bits}
use Rattle.m51_cells.specs.declared.kind.Reloc.TheVariants.{Abs, Unit as UnitType}
use Rattle.m51_module.specs.declared.parts.LayoutParts.{LayoutParts}
use Rattle.m51_module.specs.declared.placed.Mark.TheVariants.{Absolute, Plain, Overlaid}
use Rattle.m51_module.specs.declared.placed.Placed.{Placed}

-- a root of three bytes
abbrev pub root : ℕ → Placed
root base = record { title = []; kind = Code; reloc = Abs; mark = Absolute; base = base; size = 3 }

-- a unit of sixteen bytes
abbrev pub unit : ℕ → Placed
unit base = record { title = []; kind = Code; reloc = UnitType; mark = Plain; base = base; size = 16 }

-- an overlaid segment
abbrev pub local : Kind → ℕ → ℕ → Placed
local kind base size = record { title = []; kind = kind; reloc = UnitType; mark = Overlaid; base = base; size = size }

-- Units 0 to 2 are the roots of the reset and of the interrupts at 0003H and 000BH. Unit 0 calls 3, 4 and 5, unit 5
-- leads to 6, and unit 1 calls 7. Segment 8 is a byte of unit 3 at 20H, 9 are two bits of unit 4 in that byte, and 10
-- is an argument of unit 3, which unit 0 fills. Segments 11 to 15 are locals of units 5, 6, 7, 1 and 2.
abbrev pub three_roots : LayoutParts
three_roots = record {
  placed = root 0x00 ∷ root 0x03 ∷ root 0x0B ∷ unit 0x30 ∷ unit 0x40 ∷ unit 0x50 ∷ unit 0x60 ∷ unit 0x70
      ∷ local Direct 0x20 1 ∷ local Bits 0 2 ∷ local Direct 0x08 1 ∷ local Direct 0x09 1 ∷ local Direct 0x0A 1
      ∷ local Direct 0x0B 1 ∷ local Direct 0x0C 1 ∷ local Direct 0x0D 1 ∷ [];
  units = 0 ∷ 1 ∷ 2 ∷ 3 ∷ 4 ∷ 5 ∷ 6 ∷ 7 ∷ [];
  edges = (0, 3) ∷ (0, 4) ∷ (0, 5) ∷ (5, 6) ∷ (1, 7) ∷ [];
  owners = (8, 3) ∷ (9, 4) ∷ (10, 3) ∷ (10, 0) ∷ (11, 5) ∷ (12, 6) ∷ (13, 7) ∷ (14, 1) ∷ (15, 2) ∷ [];
}

-- for each unit the vector of the root under which it lies
abbrev pub vectors_of_units : List ℕ
vectors_of_units = 0 ∷ 3 ∷ 11 ∷ 0 ∷ 0 ∷ 0 ∷ 0 ∷ 3 ∷ []

-- A sound layout of one unit at 0000H and one segment of data memory, which shows that there is one.
use Rattle.std.specs.Prelude.{ℕ, List, [], ◌∷◌}
use Rattle.m51_cells.specs.declared.kind.Kind.TheVariants.{Code, Direct}
use Rattle.m51_cells.specs.declared.kind.Reloc.TheVariants.{Abs, Unit as UnitType}
use Rattle.m51_module.specs.declared.parts.LayoutParts.{LayoutParts}
use Rattle.m51_module.specs.declared.placed.Mark.TheVariants.{Absolute, Plain}
use Rattle.m51_module.specs.declared.placed.Placed.{Placed}

-- an absolute segment of program memory from 0000H on
abbrev pub unit_at_reset : List ℕ → ℕ → Placed
unit_at_reset title size = record { title = title; kind = Code; reloc = Abs; mark = Absolute; base = 0; size = size }

-- a segment of DATA of one byte at 08H
abbrev pub data_byte : List ℕ → Placed
data_byte title = record { title = title; kind = Direct; reloc = UnitType; mark = Plain; base = 8; size = 1 }

abbrev pub one_unit : List ℕ → List ℕ → ℕ → LayoutParts
one_unit unit byte size = record {
  placed = unit_at_reset unit size ∷ data_byte byte ∷ [];
  units = 0 ∷ [];
  edges = [];
  owners = [];
}

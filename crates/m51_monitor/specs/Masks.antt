-- Masks: a flag for each cell of data memory.
use Rattle.std.specs.Prelude.{◌≡◌, ℕ, Bool, false, List, [], ◌∷◌, nat_eq, length, slice_index_or}
use Rattle.std.specs.Int.{bit_at}
use Rattle.m51_cells.specs.declared.cell.Cell.{Cell}
use Rattle.m51_cells.specs.declared.cell.Space.{Space}
use Rattle.m51_cells.specs.declared.cell.Space.TheVariants.{Ram, Xram, Code}
use Rattle.m51_cells.specs.declared.extent.Extent.{Extent}
use Rattle.m51_cells.specs.Cells.{IsDataCell}
use Rattle.m51_cells.specs.Extent.{Covers}

-- a flag of a byte
abbrev pub flag_at : ℕ → ℕ → Bool
flag_at byte index = nat_eq (bit_at byte index) 1

-- the flags of bytes, eight to a byte, the lowest bit's first
abbrev pub flags_in : List ℕ → List Bool
flags_in [] = []
flags_in (b ∷ bs) =
    flag_at b 0 ∷ flag_at b 1 ∷ flag_at b 2 ∷ flag_at b 3 ∷ flag_at b 4 ∷ flag_at b 5 ∷ flag_at b 6 ∷ flag_at b 7
    ∷ flags_in bs

-- the flags of the cells of internal RAM, and of those of external memory
pub record Mask : Type 0 where
  pub ram : List Bool
  pub xram : List Bool

-- one flag for each cell
pub record IsMask (m : Mask) : Type 0 where
  pub ram : length m.ram ≡ 2048
  pub xram : length m.xram ≡ 65536

-- a memory has a cell of data there
abbrev pub IsCellAt : Space → ℕ → Type 0
IsCellAt space at = IsDataCell (record { space = space; at = at })

abbrev pub flag_in : Mask → Space → ℕ → Bool
flag_in m Ram at = slice_index_or m.ram at false
flag_in m Xram at = slice_index_or m.xram at false
flag_in m Code at = false

-- the flag of a cell
abbrev pub flag_of : Mask → Cell → Bool
flag_of m c = flag_in m c.space c.at

-- the flags of the extent's cells are set so, and all others are as before
pub record IsMarked (e : Extent) (value : Bool) (old new : Mask) : Type 0 where
  pub inside : (c : Cell) → IsDataCell c → Covers e c → flag_of new c ≡ value
  pub outside : (c : Cell) → (Covers e c → ⊥) → flag_of new c ≡ flag_of old c

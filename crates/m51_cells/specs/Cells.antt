-- How many cells the memories have.
use Rattle.std.specs.Prelude.{ℕ, ◌<◌}
use Rattle.m51_cells.specs.declared.cell.Cell.{Cell}
use Rattle.m51_cells.specs.declared.cell.Space.{Space}
use Rattle.m51_cells.specs.declared.cell.Space.TheVariants.{Ram, Xram, Code}

-- how many cells a memory has: the bits of internal RAM, or the bytes of another memory
abbrev pub cells_in : Space → ℕ
cells_in Ram = 2048
cells_in Xram = 65536
cells_in Code = 65536

-- a memory that holds data
abbrev pub IsData : Space → Type 0
IsData Code = ⊥
IsData _ = Unit {0}

-- the cell is a bit of internal RAM or a byte of external data memory
abbrev pub IsDataCell : Cell → Type 0
IsDataCell c = IsData c.space × (c.at < cells_in c.space)

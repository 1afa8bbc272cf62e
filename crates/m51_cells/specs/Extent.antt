-- The cells that a segment covers, and when two segments share one. An extent covers the numbers that its kind, base
-- and size give, also past the end of its memory.
use Rattle.std.specs.Prelude.{◌≡◌, ℕ, ◌+◌, ◌*◌, ◌<◌, ◌≤◌}
use Rattle.m51_cells.specs.declared.cell.Cell.{Cell}
use Rattle.m51_cells.specs.declared.cell.Space.{Space}
use Rattle.m51_cells.specs.declared.cell.Space.TheVariants.{Ram, Xram, Code as CodeSpace}
use Rattle.m51_cells.specs.declared.extent.Extent.{Extent}
use Rattle.m51_cells.specs.declared.kind.Kind.{Kind}
use Rattle.m51_cells.specs.declared.kind.Kind.TheVariants.{Code, Xdata, Direct, Idata, Bits, Number}

-- `len` cells of a memory, from the first
abbrev pub extent : Space → ℕ → ℕ → Extent
extent space first len = record { space = space; first = first; len = len }

-- the cells of a segment: a byte of internal RAM is eight of them, bit address 0 is the first bit of byte 20H, and what
-- has no kind covers none
abbrev pub extent_of : Kind → ℕ → ℕ → Extent
extent_of Direct base size = extent Ram (8 * base) (8 * size)
extent_of Idata base size = extent Ram (8 * base) (8 * size)
extent_of Bits base size = extent Ram (256 + base) size
extent_of Xdata base size = extent Xram base size
extent_of Code base size = extent CodeSpace base size
extent_of Number base size = extent CodeSpace base 0

-- the cell is one of the extent
pub record Covers (e : Extent) (c : Cell) : Type 0 where
  pub space : c.space ≡ e.space
  pub from : e.first ≤ c.at
  pub below : c.at < e.first + e.len

-- the two extents share a cell
abbrev pub Meet : Extent → Extent → Type 0
Meet a b = (c : Cell) × Covers a c × Covers b c

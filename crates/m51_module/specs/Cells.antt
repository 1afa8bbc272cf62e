-- The cells of placed extents.
use Rattle.std.specs.Prelude.{ℕ}
use Rattle.m51_cells.specs.declared.cell.Cell.{Cell}
use Rattle.m51_cells.specs.declared.cell.Space.TheVariants.{Code as CodeSpace}
use Rattle.m51_cells.specs.declared.extent.Extent.{Extent}
use Rattle.m51_cells.specs.Extent.{extent_of}
use Rattle.m51_module.specs.declared.placed.Placed.{Placed}

-- the cells that a placed extent covers
abbrev pub extent_at : Placed → Extent
extent_at p = extent_of p.kind p.base p.size

-- the cell of a byte of program memory
abbrev pub code_cell : ℕ → Cell
code_cell address = record { space = CodeSpace; at = address }

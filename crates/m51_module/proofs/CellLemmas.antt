-- Where extents end.
use Rattle.std.proofs.Common.{◌+◌, ◌<◌, ◌≤◌, pred, refl, arith}
use Rattle.m51_cells.specs.declared.cell.Cell.{Cell}
use Rattle.m51_cells.specs.declared.extent.Extent.{Extent}
use Rattle.m51_cells.specs.Cells.{cells_in}
use Rattle.m51_module.specs.Sound.{IsInside}

-- an extent with a cell ends inside its memory, where it lies inside it
pub inside_end : (e : Extent) → IsInside e → 0 < e.len → e.first + e.len ≤ cells_in e.space
inside_end e inside some =
    let cell : Cell = record { space = e.space; at = e.first + pred e.len } in
    omega (arith, inside cell (record { space = refl; from = omega arith; below = omega arith }))

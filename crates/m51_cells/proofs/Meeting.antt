-- When two extents share a cell.
use Rattle.std.proofs.Common.{◌≡◌, ◌+◌, ◌<◌, max, refl, arith}
use Rattle.m51_cells.specs.declared.extent.Extent.{Extent}
use Rattle.m51_cells.specs.Extent.{Covers, Meet}

pub shared : (a b : Extent) → a.space ≡ b.space → 0 < a.len → 0 < b.len → a.first < b.first + b.len
    → b.first < a.first + a.len → Meet a b
shared a b e la lb p q = (
  record { space = a.space; at = max a.first b.first },
  record { space = refl; from = omega arith; below = omega arith },
  record { space = e; from = omega arith; below = omega arith },
)

-- each covers a cell and begins before the other ends
pub record Overlap (a b : Extent) : Type 0 where
  pub first_some : 0 < a.len
  pub second_some : 0 < b.len
  pub first_before : a.first < b.first + b.len
  pub second_before : b.first < a.first + a.len

pub parted : (a b : Extent) → Meet a b → Overlap a b
parted a b m =
    let ca : Covers a m.0 = m.1 in
    let cb : Covers b m.0 = m.2 in
    record {
      first_some = omega arith;
      second_some = omega arith;
      first_before = omega arith;
      second_before =
          omega arith;
    }

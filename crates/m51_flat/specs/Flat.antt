-- Memory that holds a value in each cell.
use Rattle.std.specs.Prelude.{ℕ, ◌/◌, ◌%◌, nat_lt, if◌then◌else◌, List, slice_index}
use Rattle.std.specs.Int.{bit_at}
use Rattle.m51_flat.specs.States.{States, Holds, Absent}

-- the bytes of internal RAM and of external memory
pub record FlatBytes : Type 0 where
  pub ram : List ℕ
  pub xram : List ℕ

-- the cells of memory whose bytes are given by their addresses
abbrev pub cells_with : (ℕ → ℕ) → (ℕ → ℕ) → States
cells_with ram xram = record {
  ram = λ n. if nat_lt n 2048 then Holds (bit_at (ram (n / 8)) (n % 8)) else Absent;
  xram = λ n. if nat_lt n 65536 then Holds (xram n) else Absent;
}

-- each cell holds its bit or byte
abbrev pub flat_cells : FlatBytes → States
flat_cells m = cells_with (λ a. slice_index m.ram a) (λ a. slice_index m.xram a)

-- each cell holds that of the fill
abbrev pub filled_cells : ℕ → States
filled_cells fill = cells_with (λ a. fill) (λ a. fill)

-- Flags of the addresses of program memory: which of them are among some addresses.
use Rattle.std.specs.Prelude.{◌≡◌, ℕ, ◌<◌, Bool, false, List, length}
use Rattle.std.specs.List.{slice_index_or}
use Rattle.m51_disasm.specs.Lines.{is_among}

-- `count` flags, none of them set
pub record AreUnset (count : ℕ) (flags : List Bool) : Type 0 where
  pub len : length flags ≡ count
  pub each : (address : ℕ) → address < count → slice_index_or flags address false ≡ false

-- a flag for each address, set where it is one of these
pub record AreFlags (addresses : List ℕ) (flags : List Bool) : Type 0 where
  pub len : length flags ≡ 65536
  pub each : (address : ℕ) → address < 65536 → slice_index_or flags address false ≡ is_among addresses address

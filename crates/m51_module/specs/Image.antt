-- The bytes of an image.
use Rattle.std.specs.Prelude.{◌≡◌, ℕ, ◌<◌, List, length, slice_index}
use Rattle.m51_module.specs.declared.image.TheConstants.{IMAGE_LEN}

-- `count` bytes, each FFH
pub record IsErased (count : ℕ) (bytes : List ℕ) : Type 0 where
  pub len : length bytes ≡ count
  pub each : (address : ℕ) → address < count → slice_index bytes address ≡ 0xFF

-- a byte for each address of program memory, and all FFH
abbrev pub IsBlank : List ℕ → Type 0
IsBlank bytes = IsErased IMAGE_LEN bytes

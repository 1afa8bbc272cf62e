-- Of the code: program memory while it is filled, where an address has a byte or none.
use Rattle.std.specs.Prelude.{◌≡◌, ℕ, ◌+◌, ◌<◌, ◌≤◌, true, List, length, slice_index, slice_index_or, is_some}
use Rattle.std.specs.Prelude.{unwrap_or, Option, Some, None}
use Rattle.std.specs.Option.{option_or}
use Rattle.m51_linker.specs.Stretches.{Stretch, byte_among}

-- the byte of the memory for the address, if it has one
abbrev pub held_at : List (Option ℕ) → ℕ → Option ℕ
held_at memory address = slice_index_or memory address None

-- the byte of the image at the address
abbrev pub image_at : List ℕ → ℕ → Option ℕ
image_at image address = Some (slice_index image address)

-- Below, old and new give the byte at an address before and after.

-- the first `count` of these bytes are put from the address on, and nothing else
pub record IsPut (at : ℕ) (bytes : List ℕ) (count : ℕ) (old new : ℕ → Option ℕ) : Type 0 where
  pub put : (k : ℕ) → k < count → new (at + k) ≡ Some (slice_index bytes k)
  pub before : (address : ℕ) → address < at → new address ≡ old address
  pub after : (address : ℕ) → at + count ≤ address → new address ≡ old address

-- the stretches are put, one after another
pub record AreWritten (stretches : List Stretch) (old new : ℕ → Option ℕ) : Type 0 where
  pub each : (address : ℕ) → new address ≡ option_or (byte_among stretches address) (old address)

-- the memory has the byte of the stretches for each address
pub record HoldsStretches (stretches : List Stretch) (memory : List (Option ℕ)) : Type 0 where
  pub len : length memory ≡ 65536
  pub each : (address : ℕ) → held_at memory address ≡ byte_among stretches address

-- the first `count` addresses of the image have the byte of the memory, and FFH where it has none
pub record IsErasedBut (memory : List (Option ℕ)) (count : ℕ) (image : List ℕ) : Type 0 where
  pub len : length image ≡ 65536
  pub each : (address : ℕ) → address < count → slice_index image address ≡ unwrap_or (held_at memory address) 0xFF

-- the memory has a byte for the address, which is below the end
pub record IsHeldBelow (memory : List (Option ℕ)) (end address : ℕ) : Type 0 where
  pub below : address < end
  pub held : is_some (slice_index_or memory address None) ≡ true

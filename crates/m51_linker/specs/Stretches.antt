-- Stretches: consecutive bytes of program memory.
use Rattle.std.specs.Prelude.{ℕ, ◌-◌, nat_le, if◌then◌else◌, List, [], ◌∷◌, slice_get, Option, None}
use Rattle.std.specs.Option.{option_or}
use Rattle.m51_fields.specs.declared.fields.FieldBytes.{FieldBytes}
use Rattle.m51_fields.specs.Fields.{bytes_of_field}

-- consecutive bytes, from an address on
pub record Stretch : Type 0 where
  pub at : ℕ
  pub bytes : List ℕ

-- the byte of the stretch for the address
abbrev pub byte_in : Stretch → ℕ → Option ℕ
byte_in s address = if nat_le s.at address then slice_get s.bytes (address - s.at) else None

-- The byte of these stretches for the address. In a sound layout at most one of them has one; else the last would
-- count.
abbrev pub byte_among : List Stretch → ℕ → Option ℕ
byte_among [] address = None
byte_among (s ∷ more) address = option_or (byte_among more address) (byte_in s address)

-- the bytes of a field at the address
abbrev pub stretch_at : ℕ → FieldBytes → Stretch
stretch_at address field = record { at = address; bytes = bytes_of_field field }

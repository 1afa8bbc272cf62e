-- What a field of a statement may hold: classes, operators over a base, and numbers (this project's rules of operands).
use Rattle.std.specs.Prelude.{ℕ, ◌%◌, Bool, true, false, nat_le}
use Rattle.m51_cells.specs.declared.kind.Kind.{Kind}
use Rattle.m51_cells.specs.declared.kind.Kind.TheVariants as kind
use Rattle.m51_expr.specs.declared.value.Part.{Part}
use Rattle.m51_expr.specs.declared.value.Part.TheVariants.{Whole, Bit}
use Rattle.m51_isa.specs.declared.slot.Field.{Field}
use Rattle.m51_isa.specs.declared.slot.Field.TheVariants as field
use Rattle.m51_isa.specs.Targets.{fits_byte}

-- A value without a class is allowed in any field, and any value in data and words; else the class is that of the
-- field.
abbrev pub takes_class : Field → Kind → Bool
takes_class at kind.Number = true
takes_class field.Data class = true
takes_class field.Data16 class = true
takes_class field.Direct kind.Direct = true
takes_class field.Bit kind.Bits = true
takes_class field.Addr16 kind.Code = true
takes_class field.Addr11 kind.Code = true
takes_class field.Rel kind.Code = true
takes_class at class = false

-- HIGH and LOW of a base are allowed only in 8 bits of data or of an address; the dot of a base there, and in a bit
-- address.
abbrev pub takes_part : Field → Part → Bool
takes_part at Whole = true
takes_part field.Data part = true
takes_part field.Direct part = true
takes_part field.Bit (Bit b) = true
takes_part at part = false

-- data of 8 bits, as a number without or with a sign; an address or a bit of 8 bits
abbrev pub takes_number : Field → ℕ → Bool
takes_number field.Data n = fits_byte n
takes_number field.Direct n = nat_le n 0xFF
takes_number field.Bit n = nat_le n 0xFF
takes_number at n = true

-- what the field holds of a number: the low byte of data of 8 bits
abbrev pub held_of : Field → ℕ → ℕ
held_of field.Data n = n % 256
held_of at n = n

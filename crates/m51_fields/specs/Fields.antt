-- What each form of fixup writes: target is the address T to which it refers, address the address P of its field, and
-- first the byte of content at P. None where the rule of the form fails.
use Rattle.std.specs.Prelude.{ℕ, ◌+◌, ◌*◌, ◌/◌, ◌%◌, Bool, nat_le, if◌then◌else◌, List, [], ◌∷◌, Option, Some, None}
use Rattle.std.specs.Prelude.{option_map}
use Rattle.m51_isa.specs.Targets.{bit_address, distance, fits_byte, in_one_block, is_near}
use Rattle.m51_module.specs.declared.content.Form.{Form}
use Rattle.m51_module.specs.declared.content.Form.TheVariants.{Low, Byte, Relative, High, Word, Inblock, Bit, Conv}
use Rattle.m51_fields.specs.declared.fields.FieldBytes.{FieldBytes}
use Rattle.m51_fields.specs.declared.fields.FieldBytes.TheVariants.{One, Two}

-- the bytes of a field
abbrev pub bytes_of_field : FieldBytes → List ℕ
bytes_of_field (One byte) = byte ∷ []
bytes_of_field (Two first second) = first ∷ second ∷ []

abbrev pub low_of : ℕ → ℕ
low_of address = address % 256

abbrev pub high_of : ℕ → ℕ
high_of address = address / 256

-- the byte, where the rule is met
abbrev pub one_if : Bool → ℕ → Option FieldBytes
one_if met byte = if met then Some (One byte) else None

-- LOW and HIGH: the low or the high byte of T
abbrev pub low_field : ℕ → Option FieldBytes
low_field target = Some (One (low_of target))

abbrev pub high_field : ℕ → Option FieldBytes
high_field target = Some (One (high_of target))

-- BYTE: T is at most 00FFH or at least FF00H; its low byte
abbrev pub byte_field : ℕ → Option FieldBytes
byte_field target = one_if (fits_byte target) (low_of target)

-- WORD: T, the high byte first
abbrev pub word_field : ℕ → Option FieldBytes
word_field target = Some (Two (high_of target) (low_of target))

-- RELATIVE: T minus P + 1, modulo 65,536, is a signed number from -128 to 127, that is 0000H to 007FH or FF80H to FFFFH
abbrev pub far_of : ℕ → ℕ → ℕ
far_of target address = distance ((address + 1) % 65536) target

abbrev pub relative_field : ℕ → ℕ → Option FieldBytes
relative_field target address = one_if (is_near (far_of target address)) (low_of (far_of target address))

-- INBLOCK: T and P + 2, modulo 65,536, agree in the upper five bits; bits 10 to 8 of T go to the top of the first byte,
-- whose low five bits stay, and the low byte follows
abbrev pub block_field : ℕ → ℕ → FieldBytes
block_field target first = Two (high_of target % 8 * 32 + first % 32) (low_of target)

abbrev pub inblock_field : ℕ → ℕ → ℕ → Option FieldBytes
inblock_field target address first =
    if in_one_block target ((address + 2) % 65536) then Some (block_field target first) else None

-- BIT: T is at most 00FFH
abbrev pub bit_field : ℕ → Option FieldBytes
bit_field target = one_if (nat_le target 0xFF) (low_of target)

-- CONV: T is a byte from 20H to 2FH, whose bits have the addresses from 8 * (T - 20H) on, or a byte from 80H to FFH
-- that is a multiple of 8, whose bits have the addresses from T on
abbrev pub conv_field : ℕ → ℕ → Option FieldBytes
conv_field target bit = option_map (λ address. One address) (bit_address target bit)

-- The field of a fixup of that form and bit.
abbrev pub field_of : Form → ℕ → ℕ → ℕ → ℕ → Option FieldBytes
field_of Low bit target address first = low_field target
field_of Byte bit target address first = byte_field target
field_of Relative bit target address first = relative_field target address
field_of High bit target address first = high_field target
field_of Word bit target address first = word_field target
field_of Inblock bit target address first = inblock_field target address first
field_of Bit bit target address first = bit_field target
field_of Conv bit target address first = conv_field target bit

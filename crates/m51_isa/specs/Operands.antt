-- The operands of the rows of the instruction table: their fields, and how their numbers are in the bytes.
use Rattle.std.specs.Prelude.{ℕ, ◌+◌, ◌*◌, ◌/◌, ◌%◌, ◌<◌, List, [], ◌∷◌, Option, Some, None, cond, nat_eq}
use Rattle.m51_isa.specs.declared.slot.Field.{Field}
use Rattle.m51_isa.specs.declared.slot.Field.TheVariants as field
use Rattle.m51_isa.specs.declared.slot.FieldSlot.{FieldSlot}
use Rattle.m51_isa.specs.declared.slot.Slot.{Slot}
use Rattle.m51_isa.specs.declared.slot.Slot.TheVariants.{R, AtR, Imm, Plain, NotBit}

-- operands whose field begins at a byte of the instruction: #data, #data16, direct, bit, /bit, addr16, addr11 and rel
abbrev pub data_at : ℕ → ℕ → Slot
data_at byte number = Imm (record { field = field.Data; byte = byte; number = number })

abbrev pub data16_at : ℕ → ℕ → Slot
data16_at byte number = Imm (record { field = field.Data16; byte = byte; number = number })

abbrev pub direct_at : ℕ → ℕ → Slot
direct_at byte number = Plain (record { field = field.Direct; byte = byte; number = number })

abbrev pub bit_at : ℕ → ℕ → Slot
bit_at byte number = Plain (record { field = field.Bit; byte = byte; number = number })

abbrev pub not_bit_at : ℕ → ℕ → Slot
not_bit_at byte number = NotBit (record { field = field.Bit; byte = byte; number = number })

abbrev pub addr16_at : ℕ → ℕ → Slot
addr16_at byte number = Plain (record { field = field.Addr16; byte = byte; number = number })

abbrev pub addr11_at : ℕ → ℕ → Slot
addr11_at byte number = Plain (record { field = field.Addr11; byte = byte; number = number })

abbrev pub rel_at : ℕ → ℕ → Slot
rel_at byte number = Plain (record { field = field.Rel; byte = byte; number = number })

-- the field of an operand, if it has one
abbrev pub field_in : Slot → Option FieldSlot
field_in (Imm f) = Some f
field_in (Plain f) = Some f
field_in (NotBit f) = Some f
field_in slot = None

-- three bytes of an instruction
abbrev pub Bytes : Type 0
Bytes = ℕ × ℕ × ℕ

abbrev pub list_of : Bytes → List ℕ
list_of bytes = bytes.0 ∷ bytes.1 ∷ bytes.2 ∷ []

-- with the number of a field in them: a word has its high byte first, addr11 its top three bits in the opcode
abbrev pub with_field : Field → ℕ → ℕ → Bytes → Bytes
with_field field.Data16 byte n bytes = (bytes.0, n / 256, n % 256)
with_field field.Addr16 byte n bytes = (bytes.0, n / 256, n % 256)
with_field field.Addr11 byte n bytes = (bytes.0 + 32 * (n / 256), n % 256, bytes.2)
with_field f byte n bytes = cond (nat_eq byte 1) (bytes.0, n, bytes.2) (bytes.0, bytes.1, n)

-- with that of an operand: a register is in the lowest bits of the opcode
abbrev pub with_slot : Slot → Bytes → Bytes
with_slot (R n) bytes = (bytes.0 + n, bytes.1, bytes.2)
with_slot (AtR n) bytes = (bytes.0 + n, bytes.1, bytes.2)
with_slot (Imm f) bytes = with_field f.field f.byte f.number bytes
with_slot (Plain f) bytes = with_field f.field f.byte f.number bytes
with_slot (NotBit f) bytes = with_field f.field f.byte f.number bytes
with_slot slot bytes = bytes

-- the number of a field in three bytes, and that of an operand
abbrev pub field_at : Field → ℕ → Bytes → ℕ
field_at field.Data16 byte bytes = bytes.1 * 256 + bytes.2
field_at field.Addr16 byte bytes = bytes.1 * 256 + bytes.2
field_at field.Addr11 byte bytes = bytes.0 / 32 * 256 + bytes.1
field_at f byte bytes = cond (nat_eq byte 1) bytes.1 bytes.2

abbrev pub slot_at : Slot → Bytes → ℕ
slot_at (R n) bytes = bytes.0 % 8
slot_at (AtR n) bytes = bytes.0 % 2
slot_at (Imm f) bytes = field_at f.field f.byte bytes
slot_at (Plain f) bytes = field_at f.field f.byte bytes
slot_at (NotBit f) bytes = field_at f.field f.byte bytes
slot_at slot bytes = 0

-- the opcode of a row whose first is this, with what an operand has of it: a register, or the top bits of an addr11
abbrev addr11_in : Field → ℕ → ℕ → ℕ
addr11_in field.Addr11 opcode own = own + 32 * (opcode / 32)
addr11_in f opcode own = own

abbrev pub in_opcode : Slot → ℕ → ℕ → ℕ
in_opcode (R n) opcode own = own + opcode % 8
in_opcode (AtR n) opcode own = own + opcode % 2
in_opcode (Plain f) opcode own = addr11_in f.field opcode own
in_opcode slot opcode own = own

-- how many bytes follow the opcode for a field, and for an operand
abbrev pub field_length : Field → ℕ
field_length field.Data16 = 2
field_length field.Addr16 = 2
field_length f = 1

abbrev pub slot_length : Slot → ℕ
slot_length (Imm f) = field_length f.field
slot_length (Plain f) = field_length f.field
slot_length (NotBit f) = field_length f.field
slot_length slot = 0

-- what a field holds of a number
abbrev pub kept : Field → ℕ → ℕ
kept field.Data16 n = n
kept field.Addr16 n = n
kept field.Addr11 n = n % 2048
kept at n = n % 256

-- the number of an operand whose field takes this number: a register keeps its own
abbrev pub taken : Slot → ℕ → ℕ
taken (R own) n = own
taken (AtR own) n = own
taken (Imm f) n = kept f.field n
taken (Plain f) n = kept f.field n
taken (NotBit f) n = kept f.field n
taken slot n = 0

-- the number of a register is below its bound, or else this is so
abbrev pub FitsRegister : Slot → Type 0 → Type 0
FitsRegister (R n) Else = n < 8
FitsRegister (AtR n) Else = n < 2
FitsRegister slot Else = Else

-- the number of an addr11 is below its bound
abbrev pub FitsAddr11 : Field → ℕ → Type 0
FitsAddr11 field.Addr11 n = n < 2048
FitsAddr11 f n = Unit {0}

-- an operand that is an addr11 fits
abbrev pub FitsAddress : Slot → Type 0
FitsAddress (Plain f) = FitsAddr11 f.field f.number
FitsAddress slot = Unit {0}

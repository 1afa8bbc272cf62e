-- Where the operand of a jump, a branch or a call leads, which targets it reaches, and which bits have addresses. All
-- is counted from the address of the next instruction, in a program memory of 65,536 bytes.
use Rattle.std.specs.Prelude.{ℕ, ◌+◌, ◌-◌, ◌*◌, ◌/◌, ◌%◌, ◌==◌, Bool, ◌&&◌, ◌||◌, nat_le, nat_lt, if◌then◌else◌}
use Rattle.std.specs.Prelude.{Option, Some, None}
use Rattle.m51_isa.specs.declared.instr.Instr.{Instr}
use Rattle.m51_isa.specs.declared.slot.Field.{Field}
use Rattle.m51_isa.specs.declared.slot.Field.TheVariants.{Addr11, Addr16, Rel}
use Rattle.m51_isa.specs.declared.slot.Slot.{Slot}
use Rattle.m51_isa.specs.declared.slot.Slot.TheVariants.{Plain}
use Rattle.m51_isa.specs.Table.{Text, length_of, text_of}

-- the address after an instruction at this address
abbrev pub next_of : Instr → ℕ → ℕ
next_of instr at = (at + length_of instr) % 65536

-- an address and a signed byte
abbrev pub relative : ℕ → ℕ → ℕ
relative next rel = if nat_lt rel 128 then (next + rel) % 65536 else (next + 65280 + rel) % 65536

-- an address of 11 bits in the block of 2,048 bytes of the next instruction
abbrev pub near : ℕ → ℕ → ℕ
near next address = next / 2048 * 2048 + address

-- how far a target lies from the next instruction, modulo 65,536
abbrev pub distance : ℕ → ℕ → ℕ
distance next target = (65536 + target - next) % 65536

-- a distance from -128 to 127
abbrev pub is_near : ℕ → Bool
is_near d = nat_le d 127 || nat_le 65408 d

-- two addresses in one block of 2,048 bytes
abbrev pub in_one_block : ℕ → ℕ → Bool
in_one_block a b = a / 2048 == b / 2048

-- a number of 16 bits that a byte can hold, without a sign or with one
abbrev pub fits_byte : ℕ → Bool
fits_byte n = nat_le n 0xFF || nat_le 0xFF00 n

-- The bits 0 to 7 of the bytes 20H to 2FH, and of multiples of 8 from 80H to 0F8H, have addresses.
abbrev pub bit_address : ℕ → ℕ → Option ℕ
bit_address byte bit =
    if nat_lt 7 bit then None
    else if nat_le 0x20 byte && nat_le byte 0x2F then Some ((byte - 0x20) * 8 + bit)
    else if (nat_le 0x80 byte && nat_le byte 0xF8) && byte % 8 == 0 then Some (byte + bit)
    else None

-- where a field leads with this next address, if it is a target, else this
abbrev led_by : Field → ℕ → ℕ → Option ℕ → Option ℕ
led_by Rel n next other = Some (relative next n)
led_by Addr11 n next other = Some (near next n)
led_by Addr16 n next other = Some n
led_by f n next other = other

abbrev led : Slot → ℕ → Option ℕ → Option ℕ
led (Plain f) next other = led_by f.field f.number next other
led slot next other = other

-- the target of a jump, a branch or a call with this next address; `JMP @A+DPTR` names none
abbrev pub target_of : Instr → ℕ → Option ℕ
target_of i next =
    let t : Text = text_of i in led t.first next (led t.second next (led t.third next None))

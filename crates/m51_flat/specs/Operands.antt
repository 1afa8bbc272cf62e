-- Operands: where they are, what is read of them, and what a write of them changes.
use Rattle.std.specs.Prelude.{ℕ, ◌+◌, ◌-◌, ◌*◌, ◌/◌, ◌%◌, Bool, nat_lt, if◌then◌else◌}
use Rattle.std.specs.Int.{bit_at}
use Rattle.m51_flat.specs.declared.state.Cpu.{Cpu}
use Rattle.m51_flat.specs.declared.state.Pins.{Pins}
use Rattle.m51_flat.specs.declared.state.Put.TheVariants.{Byte, Bit}
use Rattle.m51_flat.specs.declared.state.Effect.{Effect}
use Rattle.m51_flat.specs.declared.actions.Addressing.{Addressing}
use Rattle.m51_flat.specs.declared.actions.Addressing.TheVariants.{Accumulator, Direct, Indirect, Bank}
use Rattle.m51_flat.specs.declared.actions.ByteOperand.{ByteOperand}
use Rattle.m51_flat.specs.declared.actions.ByteOperand.TheVariants.{Immediate, At}
use Rattle.m51_flat.specs.declared.actions.Location.{Location}
use Rattle.m51_flat.specs.declared.actions.Location.TheVariants.{Ram, Sfr}
use Rattle.m51_flat.specs.Reads.{Reads, Ends, Read, ByteAt, BitAt, then_read}
use Rattle.m51_flat.specs.Sfr.{acc, psw, latch, found, with_bit, with_sfr}

-- the register bank that bits 4 and 3 of PSW select begins here
unfoldable pub bank : Cpu → ℕ
bank cpu = 8 * (latch cpu psw / 8 % 4)

-- the location of an addressed byte: for an indirect one its register is read
unfoldable pub location_of : Cpu → Addressing → Reads Location
location_of cpu Accumulator = Ends (Sfr acc)
location_of cpu (Direct a) = Ends (if nat_lt a 0x80 then Ram a else Sfr a)
location_of cpu (Indirect i) = Read (ByteAt (bank cpu + i)) (λ p. Ends (Ram p))
location_of cpu (Bank n) = Ends (Ram (bank cpu + n))

-- the value at a location, for an operand that is changed: of a port its latch
unfoldable pub latch_at : Cpu → Location → Reads ℕ
latch_at cpu (Ram a) = Read (ByteAt a) (λ v. Ends v)
latch_at cpu (Sfr a) = Ends (latch cpu a)

-- what a read finds there: at a port the levels of its pins
unfoldable pub found_at : Cpu → Pins → Location → Reads ℕ
found_at cpu ext (Ram a) = Read (ByteAt a) (λ v. Ends v)
found_at cpu ext (Sfr a) = Ends (found cpu ext a)

-- the value of an operand that is only read
unfoldable pub operand_value : Cpu → Pins → ByteOperand → Reads ℕ
operand_value cpu ext (Immediate n) = Ends n
operand_value cpu ext (At addressing) = then_read (location_of cpu addressing) (λ at. found_at cpu ext at)

-- a write to a location
unfoldable pub with_location : Location → ℕ → Effect → Effect
with_location (Ram a) v e = record e { first = Byte a v }
with_location (Sfr a) v e = with_sfr a v e

-- the register of a bit address at or above 80H is the address with its three low bits cleared
abbrev pub byte_of_bit : ℕ → ℕ
byte_of_bit n = n - n % 8

-- a bit for an operand that is changed: of a port that of its latch
unfoldable pub bit_latch_at : Cpu → ℕ → Reads ℕ
bit_latch_at cpu n =
    if nat_lt n 0x80 then Read (BitAt n) (λ v. Ends v) else Ends (bit_at (latch cpu (byte_of_bit n)) (n % 8))

-- what a read finds in a bit: at a port the level of its pin
unfoldable pub bit_found_at : Cpu → Pins → ℕ → Reads ℕ
bit_found_at cpu ext n =
    if nat_lt n 0x80 then Read (BitAt n) (λ v. Ends v) else Ends (bit_at (found cpu ext (byte_of_bit n)) (n % 8))

-- a bit is written: in internal RAM its cell, in a register the whole byte
unfoldable pub with_bit_at : ℕ → Bool → Effect → Effect
with_bit_at n v e =
    if nat_lt n 0x80 then record e { first = Bit n v }
    else with_sfr (byte_of_bit n) (with_bit (latch e.cpu (byte_of_bit n)) (n % 8) v) e

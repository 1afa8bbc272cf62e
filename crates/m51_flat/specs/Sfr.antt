-- The special function registers, from the family manual: what a read finds and what a write changes.
use Rattle.std.specs.Prelude.{ℕ, ◌-◌, ◌^◌, Bool, true, false, ◌||◌, ◌==◌, if◌then◌else◌, Option, Some, None, List}
use Rattle.std.specs.Prelude.{slice_index, slice_set, bit_and, bit_or}
use Rattle.std.specs.Option.{option_or}
use Rattle.std.specs.Int.{bit_at}
use Rattle.m51_alu.specs.Arithmetic.{parity_of}
use Rattle.m51_flat.specs.declared.state.Cpu.{Cpu}
use Rattle.m51_flat.specs.declared.state.Pins.{Pins}
use Rattle.m51_flat.specs.declared.state.Effect.{Effect}
pub use Rattle.m51_sfr.specs.declared.addresses.TheConstants.{P0 as p0, SP as sp, DPL as dpl, DPH as dph, PCON as pcon}
pub use Rattle.m51_sfr.specs.declared.addresses.TheConstants.{TCON as tcon, TMOD as tmod, TL0 as tl0, TL1 as tl1}
pub use Rattle.m51_sfr.specs.declared.addresses.TheConstants.{TH0 as th0, TH1 as th1, P1 as p1, SCON as scon}
pub use Rattle.m51_sfr.specs.declared.addresses.TheConstants.{SBUF as sbuf, P2 as p2, IE as ie, P3 as p3, IP as ip}
pub use Rattle.m51_sfr.specs.declared.addresses.TheConstants.{T2CON as t2con, RCAP2L as rcap2l, RCAP2H as rcap2h}
pub use Rattle.m51_sfr.specs.declared.addresses.TheConstants.{TL2 as tl2, TH2 as th2, PSW as psw, ACC as acc, B as breg}
unfoldable pub use Rattle.m51_sfr.specs.Registers.{has_register}
pub use Rattle.m51_sfr.specs.Registers.{is_one_of}

-- the number of the port whose latch is at this address
unfoldable pub port_of : ℕ → Option ℕ
port_of a =
    if a == p0 then Some 0 else (if a == p1 then Some 1 else (
    if a == p2 then Some 2 else (if a == p3 then Some 3 else None)))

-- the value of a register; an address without one reads 0
unfoldable pub latch : Cpu → ℕ → ℕ
latch cpu a = if has_register a then slice_index cpu.regs (a - 0x80) else 0

-- a bit of a register is 1
unfoldable pub flag : Cpu → ℕ → ℕ → Bool
flag cpu a k = bit_at (latch cpu a) k == 1

abbrev pub through_pins : Pins → ℕ → Option ℕ → ℕ
through_pins ext v None = v
through_pins ext v (Some k) = bit_and v (slice_index ext.p k)

-- what a read finds: at a port the level of each pin, which is 1 where latch and outside are
unfoldable pub found : Cpu → Pins → ℕ → ℕ
found cpu ext a = through_pins ext (latch cpu a) (port_of a)

-- a byte with one bit replaced
unfoldable pub with_bit : ℕ → ℕ → Bool → ℕ
with_bit byte k true = bit_or byte (2 ^ k)
with_bit byte k false = bit_and byte (255 - 2 ^ k)

-- a device stores a value in a register: no port is reported as written, and interrupts are held off or not as before
unfoldable pub with_latch : Cpu → ℕ → ℕ → Cpu
with_latch cpu a v = if has_register a then record cpu { regs = slice_set cpu.regs (a - 0x80) v } else cpu

-- a device writes one bit of a register
unfoldable pub with_flag : Cpu → ℕ → ℕ → Bool → Cpu
with_flag cpu a k b = with_latch cpu a (with_bit (latch cpu a) k b)

-- bit 0 of PSW is made the parity of ACC
unfoldable pub with_parity : List ℕ → List ℕ
with_parity regs =
    slice_set regs (psw - 0x80) (with_bit (slice_index regs (psw - 0x80)) 0 (parity_of (slice_index regs (acc - 0x80))))

-- a register is written: a byte for SBUF is to be sent, and the received one is kept; an address without a register
-- ignores the write; the number of a port that was written is reported, and a write of IE or IP holds interrupts off
-- for a step
unfoldable pub with_sfr : ℕ → ℕ → Effect → Effect
with_sfr a v e =
    if a == sbuf then record e { sbuf = Some v } else (
    if has_register a then record e {
      cpu = record e.cpu {
        regs = with_parity (slice_set e.cpu.regs (a - 0x80) v);
        held = e.cpu.held || a == ie || a == ip;
      };
      port = option_or (port_of a) e.port;
    } else e)

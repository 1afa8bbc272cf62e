-- Branches, calls and returns, from the family manual.
use Rattle.std.specs.Prelude.{ℕ, ◌+◌, ◌*◌, ◌/◌, ◌%◌, Bool, true, false, not, ◌&&◌, ◌==◌, nat_lt}
use Rattle.m51_flat.specs.declared.state.Cpu.{Cpu}
use Rattle.m51_flat.specs.declared.state.Pins.{Pins}
use Rattle.m51_flat.specs.declared.state.Put.TheVariants.{Byte}
use Rattle.m51_flat.specs.declared.state.Transfer.TheVariants.{Call, Ret, Reti}
use Rattle.m51_flat.specs.declared.state.Effect.{Effect}
use Rattle.m51_flat.specs.declared.actions.Addressing.{Addressing}
use Rattle.m51_flat.specs.declared.actions.ByteOperand.{ByteOperand}
use Rattle.m51_flat.specs.declared.actions.Condition.{Condition}
use Rattle.m51_flat.specs.declared.actions.Condition.TheVariants.{IfCarry, IfNoCarry, IfZero, IfNotZero}
use Rattle.m51_flat.specs.declared.actions.ReturnFrom.{ReturnFrom}
use Rattle.m51_flat.specs.declared.actions.ReturnFrom.TheVariants.{Subroutine, Interrupt}
use Rattle.m51_flat.specs.Reads.{Reads, Ends, Read, ByteAt, then_read}
use Rattle.m51_flat.specs.Sfr.{acc, sp, latch, with_sfr}
use Rattle.m51_flat.specs.Operands.{location_of, latch_at, operand_value, with_location}
use Rattle.m51_flat.specs.Parts.{branched, carry, jumped, with_carry}

-- a condition of CY or A
unfoldable pub is_met : Condition → Cpu → Bool
is_met IfCarry cpu = carry cpu
is_met IfNoCarry cpu = not (carry cpu)
is_met IfZero cpu = latch cpu acc == 0
is_met IfNotZero cpu = not (latch cpu acc == 0)

-- CY says that the first operand is less, and the branch is taken where they differ
unfoldable pub compared : Pins → Effect → ByteOperand → ByteOperand → ℕ → Reads Effect
compared ext e first second rel =
    then_read (operand_value e.cpu ext first) (λ a.
    then_read (operand_value e.cpu ext second) (λ b.
    Ends (branched (not (a == b)) rel (with_carry (nat_lt a b) e))))

-- an operand, of a port its latch, is counted down, and the branch is taken where it is not 0
unfoldable pub counted_down : Effect → Addressing → ℕ → Reads Effect
counted_down e addressing rel =
    then_read (location_of e.cpu addressing) (λ at.
    then_read (latch_at e.cpu at) (λ v.
    let w = (v + 255) % 256 in
    Ends (branched (not (w == 0)) rel (with_location at w e))))

-- SP is raised by two, and PC stored above the stack, low byte first
unfoldable pub stacked : Effect → Effect
stacked e =
    let top = latch e.cpu sp in
    record (with_sfr sp ((top + 2) % 256) e) {
      first = Byte ((top + 1) % 256) (e.cpu.pc % 256);
      second = Byte ((top + 2) % 256) (e.cpu.pc / 256);
    }

-- the address of the next instruction is stored, and control goes to a target
unfoldable pub called : Effect → ℕ → Effect
called e target = jumped target Call (stacked e)

-- the higher level in progress ends, and interrupts are held off for a step
abbrev pub level_ended : Cpu → Cpu
level_ended cpu = record cpu { high = false; low = cpu.high && cpu.low; held = true }

-- the return from an interrupt ends the higher level in progress
abbrev pub returned_from : ReturnFrom → Effect → Effect
returned_from Subroutine e = record e { transfer = Ret }
returned_from Interrupt e = record e { cpu = level_ended e.cpu; transfer = Reti }

-- the high byte is read at SP, then the low byte below it, and SP is lowered by two
unfoldable pub returned : Effect → ReturnFrom → Reads Effect
returned e from =
    let top = latch e.cpu sp in
    Read (ByteAt top) (λ high.
    Read (ByteAt ((top + 255) % 256)) (λ low.
    Ends (returned_from from (jumped (high * 256 + low) Ret (with_sfr sp ((top + 254) % 256) e)))))

-- Parts of an effect: flags, DPTR and the program counter.
use Rattle.std.specs.Prelude.{ℕ, ◌+◌, ◌*◌, ◌/◌, ◌%◌, Bool, false, if◌then◌else◌}
use Rattle.m51_alu.specs.declared.sum.Sum.{Sum}
use Rattle.m51_isa.specs.Targets.{relative}
use Rattle.m51_flat.specs.declared.state.Cpu.{Cpu}
use Rattle.m51_flat.specs.declared.state.Transfer.{Transfer}
use Rattle.m51_flat.specs.declared.state.Transfer.TheVariants.{Jump}
use Rattle.m51_flat.specs.declared.state.Effect.{Effect}
use Rattle.m51_flat.specs.Sfr.{acc, breg, dph, dpl, psw, flag, latch, with_bit, with_sfr}

-- CY is bit 7 of PSW, AC is bit 6 and OV is bit 2
abbrev pub carry : Cpu → Bool
carry cpu = flag cpu psw 7

abbrev pub auxiliary_carry : Cpu → Bool
auxiliary_carry cpu = flag cpu psw 6

-- CY is set or cleared
unfoldable pub with_carry : Bool → Effect → Effect
with_carry cy e = with_sfr psw (with_bit (latch e.cpu psw) 7 cy) e

-- PSW with the three flags of a sum
unfoldable pub with_flags : Sum → ℕ → ℕ
with_flags s byte = with_bit (with_bit (with_bit byte 7 s.cy) 6 s.ac) 2 s.ov

-- A and the flags after a sum
unfoldable pub with_sum : Sum → Effect → Effect
with_sum s e = with_sfr acc s.value (with_sfr psw (with_flags s (latch e.cpu psw)) e)

-- A, B and OV after MUL or DIV, with CY cleared
unfoldable pub with_pair : ℕ × ℕ × Bool → Effect → Effect
with_pair p e =
    with_sfr acc p.0 (with_sfr breg p.1 (with_sfr psw (with_bit (with_bit (latch e.cpu psw) 7 false) 2 p.2) e))

-- DPTR
unfoldable pub dptr_of : Cpu → ℕ
dptr_of cpu = latch cpu dph * 256 + latch cpu dpl

unfoldable pub with_dptr : ℕ → Effect → Effect
with_dptr n e = with_sfr dpl (n % 256) (with_sfr dph (n / 256) e)

-- control goes to a target
abbrev pub jumped : ℕ → Transfer → Effect → Effect
jumped target transfer e = record e { cpu = record e.cpu { pc = target }; transfer = transfer }

-- a branch by a signed byte, where it is taken
unfoldable pub branched : Bool → ℕ → Effect → Effect
branched taken rel e = if taken then jumped (relative e.cpu.pc rel) Jump e else e

-- Steps that change nothing a device looks at.
use Rattle.std.specs.Prelude.{◌≡◌, ℕ, ◌≤◌, Bool, true, false, not, ◌&&◌, ◌||◌, ◌==◌, nat_le, Option}
use Rattle.std.specs.Prelude.{Some, None, List, [], length}
use Rattle.m51_isa.specs.declared.instr.Instr.{Instr}
use Rattle.m51_isa.specs.declared.instr.Written.{Written}
use Rattle.m51_isa.specs.declared.instr.Written.TheVariants.{Nothing, Direct, Bit, BitIfSet}
use Rattle.m51_isa.specs.Changes.{written_of}
use Rattle.m51_flat.specs.declared.state.Cpu.{Cpu}
use Rattle.m51_flat.specs.declared.state.Effect.{Effect}
use Rattle.m51_flat.specs.Operands.{byte_of_bit}
use Rattle.m51_flat.specs.Sfr.{acc, breg, dph, dpl, latch, psw, sp}
use Rattle.m51_script.specs.Levels.{all_high}
use Rattle.m51_timers_uart.specs.declared.periph.Periph.{Periph}
use Rattle.m51_timers_uart.specs.OnlyCounting.{AreCounting, OnlyCount, counted_on}
use Rattle.m51_timers_uart.specs.Resting.{AreResting}
use Rattle.m51_sim.specs.declared.attempt.Attempt.{Attempt}
use Rattle.m51_sim.specs.declared.attempt.Attempt.TheVariants.{Executing, Vectoring}
use Rattle.m51_sim.specs.declared.program.Row.{Row}
use Rattle.m51_sim.specs.declared.cycles.Pace.{Pace}
use Rattle.m51_sim.specs.declared.cycles.Pace.TheVariants.{Resting, Counting}
use Rattle.m51_sim.specs.declared.cycles.Timed.{Timed}
use Rattle.m51_sim.specs.Boards.{ChipState}
use Rattle.m51_sim.specs.Effects.{instr_at}

-- a register other than A, B, PSW, SP and DPTR, at which no device looks
abbrev pub is_other : ℕ → Bool
is_other a = nat_le 128 a && not (a == sp || a == dpl || a == dph || a == psw || a == acc || a == breg)

-- what is written at the address of an operand is no other register, and no bit of one
abbrev pub leaves_others : Written → Bool
leaves_others Nothing = true
leaves_others (Direct a) = not (is_other a)
leaves_others (Bit bit) = not (is_other (byte_of_bit bit))
leaves_others (BitIfSet bit) = not (is_other (byte_of_bit bit))

-- an instruction is plain: it writes no other register by its operands
abbrev pub is_plain : Option Instr → Bool
is_plain None = false
is_plain (Some instr) = leaves_others (written_of instr)

-- so is a step: that of a plain instruction, and a vectoring
abbrev pub is_plain_step : Attempt → Bool
is_plain_step (Executing instr) = is_plain (Some instr)
is_plain_step (Vectoring source) = true
is_plain_step _ = false

-- what is kept of the instruction at an address
abbrev pub row_of : List ℕ → ℕ → Row
row_of image at = record { instr = instr_at image at; plain = is_plain (instr_at image at) }

-- an effect writes no other register, no port and no byte to be sent
pub record KeepsOthers (old : Cpu) (e : Effect) : Type 0 where
  pub registers : (a : ℕ) → 128 ≤ a → is_other a ≡ true → latch e.cpu a ≡ latch old a
  pub line : e.sbuf ≡ None
  pub port : e.port ≡ None

-- the devices rest, or they count
abbrev pub DevicesAre : Pace → Cpu → Periph → Type 0
DevicesAre Resting cpu p = AreResting cpu all_high p
DevicesAre Counting cpu p = AreCounting cpu all_high p

-- of 128 registers, an effect changes nothing that decides whether the devices rest or count, and writes no port and no
-- byte to be sent
pub record KeepsDevices (old : Cpu) (e : Effect) : Type 0 where
  pub devices : length old.regs ≡ 128 → (pace : Pace) (p : Periph) → DevicesAre pace old p → DevicesAre pace e.cpu p
  pub line : e.sbuf ≡ None
  pub port : e.port ≡ None

-- in the cycles of an effect the devices rest, or they only count
abbrev pub DevicesGo : Pace → Periph → Effect → Type 0
DevicesGo Resting p e = AreResting e.cpu all_high p
DevicesGo Counting p e = OnlyCount e.cycles e.cpu all_high p

-- a chip keeps this pace: it has no script, no further frame comes, and no port and no byte is written
pub record KeepsPace (pace : Pace) (chip : ChipState) (extra : List Timed) (e : Effect) : Type 0 where
  pub pins : chip.script.pins.cycles ≡ []
  pub frames : chip.script.frames.cycles ≡ []
  pub alone : length extra ≡ 0
  pub line : e.sbuf ≡ None
  pub port : e.port ≡ None
  pub registers : length e.cpu.regs ≡ 128
  pub devices : DevicesGo pace chip.periph e

-- the processor after these cycles
abbrev pub paced_cpu : Pace → Effect → Cpu
paced_cpu Resting e = e.cpu
paced_cpu Counting e = counted_on e.cycles e.cpu

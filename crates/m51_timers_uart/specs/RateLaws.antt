-- When a byte of mode 1 is sent at the rate of timer 1, by the family manual.
use Rattle.std.specs.Prelude.{◌≡◌, ℕ, ◌+◌, ◌*◌, ◌<◌, Bool, true, false, if◌then◌else◌, List, [], ◌∷◌, Some, None}
use Rattle.m51_alu.specs.Arithmetic.{bit_of}
use Rattle.m51_flat.specs.declared.state.Cpu.{Cpu}
use Rattle.m51_flat.specs.Flags.{smod, tclk}
use Rattle.m51_flat.specs.Sfr.{flag, pcon, t2con}
use Rattle.m51_timers_uart.specs.declared.periph.Periph.{Periph}
use Rattle.m51_timers_uart.specs.Sending.{Ticked, begun, sending_ticked, serial_mode}

-- a tick of the line: the processor, whether timer 1 overflowed in it, and how often timer 2 did
pub record LineTick : Type 0 where
  pub cpu : Cpu
  pub timer1 : Bool
  pub timer2 : ℕ

abbrev pub tick_line : LineTick → Periph → Ticked
tick_line t p = sending_ticked t.timer1 t.timer2 t.cpu p

abbrev pub line_after : List LineTick → Periph → Periph
line_after [] p = p
line_after (t ∷ ts) p = line_after ts (tick_line t p).periph

-- how often timer 1 overflowed in these ticks
abbrev pub overflows_in : List LineTick → ℕ
overflows_in [] = 0
overflows_in (t ∷ ts) = bit_of t.timer1 + overflows_in ts

-- timer 1 gives the rate, and SMOD has this value
pub record IsRatedBy (twice : Bool) (t : LineTick) : Type 0 where
  pub timer1_rates : flag t.cpu t2con tclk ≡ false
  pub smod_is : flag t.cpu pcon smod ≡ twice

abbrev pub AreRatedBy : Bool → List LineTick → Type 0
AreRatedBy twice [] = Unit {0}
AreRatedBy twice (t ∷ ts) = IsRatedBy twice t × AreRatedBy twice ts

-- how many overflows a bit time takes: 32, or 16 with SMOD
abbrev pub overflows_of_bit : Bool → ℕ
overflows_of_bit twice = if twice then 16 else 32

-- A byte of mode 1 is sent in the tick in which timer 1 has overflowed as often as its nine bit times take, and in
-- none before.
pub record IsSentInTime (twice : Bool) (byte : ℕ) (before : List LineTick) (t : LineTick) (p : Periph) : Type 0 where
  pub early : overflows_in before + bit_of t.timer1 < 9 * overflows_of_bit twice
      → (tick_line t (line_after before p)).sent ≡ None
  pub sent : overflows_in before + 1 ≡ 9 * overflows_of_bit twice → t.timer1 ≡ true
      → (tick_line t (line_after before p)).sent ≡ Some (record { byte = byte; ninth = None })

-- so it is from each write to SBUF in mode 1 on, as long as timer 1 gives the rate and SMOD stays
abbrev pub ModeOneIsSentInTime : Type 0
ModeOneIsSentInTime =
    (cpu : Cpu) (byte : ℕ) (p : Periph) (twice : Bool) (before : List LineTick) (t : LineTick)
    → serial_mode cpu ≡ 1 → AreRatedBy twice before → IsRatedBy twice t
    → IsSentInTime twice byte before t (begun cpu byte p)

-- Timer 1 and the serial line over consecutive machine cycles, by the family manual.
use Rattle.std.specs.Prelude.{◌≡◌, ℕ, ◌+◌, ◌-◌, ◌*◌, ◌<◌, Bool, true, false, List, [], ◌∷◌, ◌++◌, length, Some, None}
use Rattle.m51_flat.specs.declared.state.Cpu.{Cpu}
use Rattle.m51_flat.specs.Flags.{smod, tclk, tf1, ti, tr1}
use Rattle.m51_flat.specs.Sfr.{flag, latch, pcon, scon, t2con, tcon, th1, tl1, tmod}
use Rattle.m51_timers_uart.specs.declared.counting.TimerBytes.{TimerBytes}
use Rattle.m51_timers_uart.specs.declared.counting.TimerMode.{TimerMode}
use Rattle.m51_timers_uart.specs.declared.counting.TimerMode.TheVariants.{Reloaded}
use Rattle.m51_timers_uart.specs.declared.periph.Periph.{Periph}
use Rattle.m51_timers_uart.specs.CountLaws.{AreTimerBytes}
use Rattle.m51_timers_uart.specs.Counting.{counter_value, reload_of, count_modulus}
use Rattle.m51_timers_uart.specs.LineLaws.{AreQuiet, Cycle, after_cycles, cycled}
use Rattle.m51_timers_uart.specs.RateLaws.{overflows_of_bit}
use Rattle.m51_timers_uart.specs.Sending.{begun, bit_times, serial_mode}
use Rattle.m51_timers_uart.specs.Timers.{bytes_at, is_split, mode0, mode1}

-- timer 1 is in this mode and runs free: TR1 is 1, and GATE and C/T are 0
pub record RunsFree (mode : TimerMode) (cpu : Cpu) : Type 0 where
  pub mode_is : mode1 cpu ≡ mode
  pub runs : flag cpu tcon tr1 ≡ true
  pub gate : flag cpu tmod 7 ≡ false
  pub counter : flag cpu tmod 6 ≡ false

-- timer 1 gives the rate of what is sent, as TCLK is 0, and SMOD has this value
pub record HasRate (twice : Bool) (cpu : Cpu) : Type 0 where
  pub timer2 : flag cpu t2con tclk ≡ false
  pub smod_is : flag cpu pcon smod ≡ twice

-- what runs between two ticks does not write timer 1: TH1, TL1, TMOD and TR1 are as the tick left them
pub record LeavesTimer1 (left cpu : Cpu) : Type 0 where
  pub size : length cpu.regs ≡ 128
  pub bytes : bytes_at th1 tl1 cpu ≡ bytes_at th1 tl1 left
  pub mode : latch cpu tmod ≡ latch left tmod
  pub runs : flag cpu tcon tr1 ≡ flag left tcon tr1

-- nor what makes it the rate: TCLK and SMOD
pub record LeavesRate (left cpu : Cpu) : Type 0 where
  pub timer : LeavesTimer1 left cpu
  pub timer2 : flag cpu t2con tclk ≡ flag left t2con tclk
  pub rate : flag cpu pcon smod ≡ flag left pcon smod

-- so it is before each of these cycles
abbrev pub AreInRow : (Cpu → Cpu → Type 0) → Cpu → Periph → List Cycle → Type 0
AreInRow Leaves left p [] = Unit {0}
AreInRow Leaves left p (c ∷ cs) = Leaves left c.cpu × AreInRow Leaves (cycled c p).cpu (cycled c p).periph cs

-- the processor after a cycle that comes after others
abbrev pub cpu_after : List Cycle → Cycle → Periph → Cpu
cpu_after before last p = (cycled last (after_cycles before p)).cpu

-- each cycle is a count: the number grows by one, and in the cycle in which it reaches the size TF1 is set, and the
-- number is the reload value; before that TF1 stays
pub record CountsCycles (mode : TimerMode) (t : TimerBytes) (n : ℕ) (last new : Cpu) : Type 0 where
  pub number : counter_value mode t + n < count_modulus mode → counter_value mode (bytes_at th1 tl1 new)
      ≡ counter_value mode t + n
  pub stays : counter_value mode t + n < count_modulus mode → flag new tcon tf1 ≡ flag last tcon tf1
  pub reload : counter_value mode t + n ≡ count_modulus mode → counter_value mode (bytes_at th1 tl1 new)
      ≡ reload_of mode t
  pub overflow : counter_value mode t + n ≡ count_modulus mode → flag new tcon tf1 ≡ true

-- timer 1 in modes 0 to 2, while it runs free; TF1 is its own where timer 0 is not in mode 3
abbrev pub TimerOneCountsCycles : Type 0
TimerOneCountsCycles =
    (mode : TimerMode) (cpu : Cpu) (p : Periph) (before : List Cycle) (last : Cycle)
    → is_split mode ≡ false → RunsFree mode cpu → AreTimerBytes (bytes_at th1 tl1 cpu)
    → AreInRow LeavesTimer1 cpu p (before ++ last ∷ []) → is_split (mode0 last.cpu) ≡ false
    → CountsCycles mode (bytes_at th1 tl1 cpu) (length before + 1) last.cpu (cpu_after before last p)

-- how many cycles the nine bit times of a byte take: 256 less TL1 to the first overflow, and 256 less TH1 to each
-- later one
abbrev pub cycles_to_send : Bool → TimerBytes → ℕ
cycles_to_send twice t = (256 - t.low) + (bit_times 1 * overflows_of_bit twice - 1) * (256 - t.high)

-- before that cycle nothing is sent and TI stays; in it the byte is sent and TI is set
pub record IsSentAt (due byte n : ℕ) (last : Cycle) (p : Periph) : Type 0 where
  pub early : n < due → ((cycled last p).sent ≡ None) × (flag (cycled last p).cpu scon ti ≡ flag last.cpu scon ti)
  pub sent : n ≡ due
      → ((cycled last p).sent ≡ Some (record { byte = byte; ninth = None })) × (flag (cycled last p).cpu scon ti ≡ true)

-- from a write to SBUF in mode 1 on, while timer 1 runs free in mode 2
abbrev pub ModeOneIsSentAtItsCycle : Type 0
ModeOneIsSentAtItsCycle =
    (cpu : Cpu) (byte : ℕ) (p : Periph) (twice : Bool) (before : List Cycle) (last : Cycle)
    → serial_mode cpu ≡ 1 → HasRate twice cpu → RunsFree Reloaded cpu → AreTimerBytes (bytes_at th1 tl1 cpu)
    → AreQuiet (before ++ last ∷ []) → AreInRow LeavesRate cpu (begun cpu byte p) (before ++ last ∷ [])
    → IsSentAt (cycles_to_send twice (bytes_at th1 tl1 cpu)) byte (length before + 1) last
    (after_cycles before (begun cpu byte p))

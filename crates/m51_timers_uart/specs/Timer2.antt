-- Timer 2, from the family manual.
use Rattle.std.specs.Prelude.{ℕ, zero, suc, ◌+◌, Bool, true, not, ◌&&◌, ◌||◌, if◌then◌else◌}
use Rattle.m51_alu.specs.Arithmetic.{bit_of}
use Rattle.m51_flat.specs.declared.state.Cpu.{Cpu}
use Rattle.m51_flat.specs.Sfr.{flag, with_flag, t2con, rcap2l, rcap2h, tl2, th2}
use Rattle.m51_timers_uart.specs.declared.levels.Levels.{Levels}
use Rattle.m51_timers_uart.specs.declared.levels.Input.TheVariants.{T2, T2ex}
use Rattle.m51_timers_uart.specs.declared.counting.TimerMode.TheVariants.{SixteenBits}
use Rattle.m51_timers_uart.specs.declared.counting.Counted.{Counted}
use Rattle.m51_flat.specs.Flags.{cprl2, ct2, exen2, exf2, rclk, tclk, tf2, tr2}
use Rattle.m51_timers_uart.specs.Counting.{counter_value, sixteen_counted}
use Rattle.m51_timers_uart.specs.Levels.{falls}
use Rattle.m51_timers_uart.specs.Timers.{bytes_at, with_bytes}

-- RCLK or TCLK: timer 2 gives the rate of the serial line
unfoldable pub gives_rate : Cpu → Bool
gives_rate cpu = flag cpu t2con rclk || flag cpu t2con tclk

-- the processor after counts of timer 2, and how many of them were overflows
pub record Overflowed : Type 0 where
  pub cpu : Cpu
  pub overflows : ℕ

-- what the number continues from after an overflow: RCAP2 where timer 2 gives the rate or CP/RL2 is 0, else 0
unfoldable pub reload2 : Cpu → ℕ
reload2 cpu =
    if gives_rate cpu || not (flag cpu t2con cprl2) then counter_value SixteenBits (bytes_at rcap2h rcap2l cpu) else 0

-- an overflow sets TF2 but where timer 2 gives the rate
abbrev pub counted2 : Counted → Cpu → ℕ → Overflowed
counted2 c cpu before = record {
  cpu = if c.overflow && not (gives_rate cpu) then with_flag (with_bytes th2 tl2 c.bytes cpu) t2con tf2 true
      else with_bytes th2 tl2 c.bytes cpu;
  overflows = before + bit_of c.overflow;
}

-- one count after others
unfoldable pub once_more : Overflowed → Overflowed
once_more o = counted2 (sixteen_counted (reload2 o.cpu) (bytes_at th2 tl2 o.cpu)) o.cpu o.overflows

abbrev pub counted_times : ℕ → Cpu → Overflowed
counted_times zero cpu = record { cpu = cpu; overflows = 0 }
counted_times (suc n) cpu = once_more (counted_times n cpu)

-- how often timer 2 counts in this cycle: with C/T2 once where T2 fell, else once, or six times
-- where it gives the rate, as it then counts every second oscillator period
unfoldable pub times2 : Levels → Cpu → ℕ
times2 levels cpu =
    if not (flag cpu t2con tr2) then 0 else (
    if flag cpu t2con ct2 then bit_of (falls levels T2) else (if gives_rate cpu then 6 else 1))

-- a fall of T2EX with EXEN2 sets EXF2; where timer 2 does not give the rate it is captured into RCAP2 with CP/RL2 1,
-- and reloaded from it with CP/RL2 0
abbrev pub captured : Cpu → Cpu
captured cpu = with_bytes rcap2h rcap2l (bytes_at th2 tl2 cpu) cpu

abbrev pub reloaded : Cpu → Cpu
reloaded cpu = with_bytes th2 tl2 (bytes_at rcap2h rcap2l cpu) cpu

unfoldable pub exchanged2 : Cpu → Cpu
exchanged2 cpu = if gives_rate cpu then cpu else (if flag cpu t2con cprl2 then captured cpu else reloaded cpu)

unfoldable pub t2ex_heeded : Levels → Cpu → Cpu
t2ex_heeded levels cpu =
    if flag cpu t2con exen2 && falls levels T2ex then exchanged2 (with_flag cpu t2con exf2 true) else cpu

-- TR2 and EXEN2 are 0, so it does not count, and no fall of T2EX matters
unfoldable pub timer2_rests : Cpu → Bool
timer2_rests cpu = not (flag cpu t2con tr2) && not (flag cpu t2con exen2)

-- the counts, and then T2EX
abbrev pub timer2_ticked : Levels → Cpu → Overflowed
timer2_ticked levels cpu =
    let o = counted_times (times2 levels cpu) cpu in
    record { cpu = t2ex_heeded levels o.cpu; overflows = o.overflows }

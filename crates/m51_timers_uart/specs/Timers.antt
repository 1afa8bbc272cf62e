-- Timers 0 and 1, from the family manual.
use Rattle.std.specs.Prelude.{ℕ, Bool, true, false, not, ◌&&◌, ◌||◌, if◌then◌else◌}
use Rattle.m51_flat.specs.declared.state.Cpu.{Cpu}
use Rattle.m51_flat.specs.Sfr.{latch, flag, with_latch, with_flag, tcon, tmod, tl0, tl1, th0, th1}
use Rattle.m51_timers_uart.specs.declared.levels.Levels.{Levels}
use Rattle.m51_timers_uart.specs.declared.levels.Input.TheVariants.{Int0, Int1, T0, T1}
use Rattle.m51_timers_uart.specs.declared.counting.TimerMode.{TimerMode}
use Rattle.m51_timers_uart.specs.declared.counting.TimerMode.TheVariants.{Split}
use Rattle.m51_timers_uart.specs.declared.counting.TimerBytes.{TimerBytes}
use Rattle.m51_timers_uart.specs.declared.counting.Counted.{Counted}
use Rattle.m51_flat.specs.Flags.{tr0, tf0, tr1, tf1}
use Rattle.m51_timers_uart.specs.Counting.{count_on, counted_in, mode_of}
use Rattle.m51_timers_uart.specs.Levels.{falls, is_high}

-- timer 0 in bits 3 to 0 of TMOD: GATE, C/T, M1, M0
abbrev pub mode0 : Cpu → TimerMode
mode0 cpu = mode_of (flag cpu tmod 1) (flag cpu tmod 0)

-- timer 1 in bits 7 to 4
abbrev pub mode1 : Cpu → TimerMode
mode1 cpu = mode_of (flag cpu tmod 5) (flag cpu tmod 4)

abbrev pub is_split : TimerMode → Bool
is_split Split = true
is_split _ = false

-- where TR is 1 and GATE is 0 or the level of INT is 1
abbrev pub is_open : Bool → Bool → Bool → Bool
is_open tr gate int = tr && (not gate || int)

-- with C/T 0 each cycle is counted, with C/T 1 each fall of T
abbrev pub counts_in_cycle : Bool → Bool → Bool
counts_in_cycle ct fall = not ct || fall

-- timer 0 counts in this cycle
unfoldable pub counts0 : Levels → Cpu → Bool
counts0 levels cpu =
    is_open (flag cpu tcon tr0) (flag cpu tmod 3) (is_high levels Int0) && counts_in_cycle (flag cpu tmod 2)
    (falls levels T0)

-- timer 1 counts in this cycle; while timer 0 is in mode 3, TR1, GATE and INT1 do not matter
unfoldable pub counts1 : Levels → Cpu → Bool
counts1 levels cpu =
    not (is_split (mode1 cpu))
    && (is_split (mode0 cpu) || is_open (flag cpu tcon tr1) (flag cpu tmod 7) (is_high levels Int1))
    && counts_in_cycle (flag cpu tmod 6) (falls levels T1)

-- TR0 and TR1 are 0 and timer 0 is not in mode 3, so neither counts, whatever the pins do
unfoldable pub timers_rest : Cpu → Bool
timers_rest cpu = not (flag cpu tcon tr0) && not (flag cpu tcon tr1) && not (is_split (mode0 cpu))

-- the bytes of a timer
abbrev pub bytes_at : ℕ → ℕ → Cpu → TimerBytes
bytes_at high low cpu = record { high = latch cpu high; low = latch cpu low }

abbrev pub with_bytes : ℕ → ℕ → TimerBytes → Cpu → Cpu
with_bytes high low t cpu = with_latch (with_latch cpu high t.high) low t.low

-- a flag of TCON is set where the test holds
unfoldable pub flagged : Bool → ℕ → Cpu → Cpu
flagged b k cpu = if b then with_flag cpu tcon k true else cpu

-- timer 0: an overflow sets TF0
abbrev pub counted0 : Counted → Cpu → Cpu
counted0 c cpu = flagged c.overflow tf0 (with_bytes th0 tl0 c.bytes cpu)

unfoldable pub timer0_ticked : Levels → Cpu → Cpu
timer0_ticked levels cpu =
    if counts0 levels cpu then counted0 (counted_in (mode0 cpu) (bytes_at th0 tl0 cpu)) cpu else cpu

-- TH0 beside timer 0 in mode 3: it counts each cycle where TR1 is 1, and an overflow sets TF1
unfoldable pub th0_ticked : Cpu → Cpu
th0_ticked cpu =
    if is_split (mode0 cpu) && flag cpu tcon tr1 then (
    let c = count_on 256 0 (latch cpu th0) in flagged c.overflow tf1 (with_latch cpu th0 c.number)) else cpu

-- the processor after a step, and whether timer 1 overflowed in it
pub record Timed : Type 0 where
  pub cpu : Cpu
  pub overflow : Bool

-- timer 1: an overflow sets TF1 but where timer 0 is in mode 3
abbrev pub counted1 : Counted → Cpu → Timed
counted1 c cpu = record {
  cpu = flagged (c.overflow && not (is_split (mode0 cpu))) tf1 (with_bytes th1 tl1 c.bytes cpu);
  overflow = c.overflow;
}

unfoldable pub timer1_ticked : Levels → Cpu → Timed
timer1_ticked levels cpu =
    if counts1 levels cpu then counted1 (counted_in (mode1 cpu) (bytes_at th1 tl1 cpu)) cpu
    else record { cpu = cpu; overflow = false }

-- both, and TH0 between them
abbrev pub timers_ticked : Levels → Cpu → Timed
timers_ticked levels cpu = timer1_ticked levels (th0_ticked (timer0_ticked levels cpu))

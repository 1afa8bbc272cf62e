-- Devices that only count: machine cycles in which no frame arrives add their number to the low byte of each timer that
-- runs, and change nothing else.
use Rattle.std.specs.Prelude.{◌≡◌, ℕ, ◌+◌, ◌<◌, Bool, true, false, not, ◌&&◌, ◌||◌, ◌==◌, nat_le, if◌then◌else◌}
use Rattle.std.specs.Prelude.{length, List, [], None}
use Rattle.m51_flat.specs.declared.state.Cpu.{Cpu}
use Rattle.m51_flat.specs.declared.state.Pins.{Pins}
use Rattle.m51_flat.specs.Flags.{ct2, exen2, ie0, ie1, tr0, tr1, tr2}
use Rattle.m51_flat.specs.Sfr.{flag, latch, t2con, tcon, tl0, tl1, tl2, tmod, with_bit, with_latch}
use Rattle.m51_timers_uart.specs.declared.counting.TimerMode.{TimerMode}
use Rattle.m51_timers_uart.specs.declared.counting.TimerMode.TheVariants.{Reloaded, SixteenBits}
use Rattle.m51_timers_uart.specs.declared.levels.Input.TheVariants.{Int0, Int1}
use Rattle.m51_timers_uart.specs.declared.periph.Periph.{Periph}
use Rattle.m51_timers_uart.specs.Levels.{is_one, levels_of, port_and_bit}
use Rattle.m51_timers_uart.specs.Sending.{bit_time}
use Rattle.m51_timers_uart.specs.Tick.{ticked}
use Rattle.m51_timers_uart.specs.Timer2.{gives_rate}
use Rattle.m51_timers_uart.specs.Timers.{is_split, mode0, mode1}

-- modes 1 and 2: TL is counted whole
abbrev pub counts_whole : TimerMode → Bool
counts_whole SixteenBits = true
counts_whole Reloaded = true
counts_whole _ = false

-- in these modes, with GATE and C/T 0, each cycle is counted while TR is 1
abbrev pub counts_each : Bool → Bool → TimerMode → Bool
counts_each gate ct mode = not gate && not ct && counts_whole mode

-- timer 0 counts each cycle, or it does not run and is not in mode 3
unfoldable pub timer0_is_plain : Cpu → Bool
timer0_is_plain cpu =
    if flag cpu tcon tr0 then counts_each (flag cpu tmod 3) (flag cpu tmod 2) (mode0 cpu)
    else not (is_split (mode0 cpu))

-- timer 1 counts each cycle, or it does not run
unfoldable pub timer1_is_plain : Cpu → Bool
timer1_is_plain cpu =
    if flag cpu tcon tr1 then counts_each (flag cpu tmod 7) (flag cpu tmod 6) (mode1 cpu) else true

-- timer 2 counts each cycle once, or it does not run; no fall of T2EX matters
unfoldable pub timer2_is_plain : Cpu → Bool
timer2_is_plain cpu =
    not (flag cpu t2con exen2)
    && (if flag cpu t2con tr2 then not (flag cpu t2con ct2) && not (gives_rate cpu) else true)

-- no byte is on its way, or its bit time is not over and waits for the overflow of a timer, as in modes 1 and 3
unfoldable pub line_waits : Cpu → Periph → Bool
line_waits cpu p =
    if p.left == 0 then true else (p.mode == 1 || p.mode == 3) && not (nat_le (bit_time cpu p.mode) p.count)

-- a low byte after this number of cycles, by whether its timer runs
abbrev pub low_after : ℕ → Bool → ℕ → ℕ
low_after n runs low = if runs then low + n else low

abbrev pub low0_after : ℕ → Cpu → ℕ
low0_after n cpu = low_after n (flag cpu tcon tr0) (latch cpu tl0)

abbrev pub low1_after : ℕ → Cpu → ℕ
low1_after n cpu = low_after n (flag cpu tcon tr1) (latch cpu tl1)

abbrev pub low2_after : ℕ → Cpu → ℕ
low2_after n cpu = low_after n (flag cpu t2con tr2) (latch cpu tl2)

-- both pins of the external interrupts are 1, and where TCON is this byte no request of them is kept
unfoldable pub none_asks : List ℕ → ℕ → Bool
none_asks levels byte =
    is_one levels (port_and_bit Int0) && is_one levels (port_and_bit Int1)
    && with_bit byte ie0 false == byte && with_bit byte ie1 false == byte

-- with these levels outside each timer that runs counts each cycle, no level is another than at the last tick, and no
-- external interrupt asks
pub record AreCounting (cpu : Cpu) (ext : Pins) (p : Periph) : Type 0 where
  pub timer0 : timer0_is_plain cpu ≡ true
  pub timer1 : timer1_is_plain cpu ≡ true
  pub timer2 : timer2_is_plain cpu ≡ true
  pub levels : levels_of cpu ext ≡ p.levels
  pub requests : none_asks (levels_of cpu ext) (latch cpu tcon) ≡ true

-- and in this number of cycles no timer reaches the end of its low byte, and no byte moves on its way
pub record OnlyCount (n : ℕ) (cpu : Cpu) (ext : Pins) (p : Periph) : Type 0 where
  pub counting : AreCounting cpu ext p
  pub low0 : nat_le (low0_after n cpu) 255 ≡ true
  pub low1 : nat_le (low1_after n cpu) 255 ≡ true
  pub low2 : nat_le (low2_after n cpu) 255 ≡ true
  pub line : line_waits cpu p ≡ true

-- the processor after this number of such cycles
unfoldable pub counted_on : ℕ → Cpu → Cpu
counted_on n cpu =
    with_latch (with_latch (with_latch cpu tl0 (low0_after n cpu)) tl1 (low1_after n cpu)) tl2 (low2_after n cpu)

-- so the ticks of these cycles leave it, one after another, and they send nothing
pub record CountsOn (n : ℕ) (cpu : Cpu) (ext : Pins) (p : Periph) : Type 0 where
  pub start : counted_on 0 cpu ≡ cpu
  pub next : (k : ℕ) → k < n → ticked (counted_on k cpu) ext [] p
      ≡ record { cpu = counted_on (k + 1) cpu; periph = p; sent = None }

abbrev pub DevicesCountOn : Type 0
DevicesCountOn =
    (n : ℕ) (cpu : Cpu) (ext : Pins) (p : Periph) → length cpu.regs ≡ 128 → OnlyCount n cpu ext p
    → CountsOn n cpu ext p

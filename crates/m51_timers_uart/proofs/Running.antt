-- A tick of timer 0, of timer 1 that runs free, and of what gives its rate.
use Rattle.std.proofs.Common.{◌≡◌, Bool, true, false, not, cond, List, [], ◌∷◌, length, refl, ap, ◌∙◌, arith}
use Rattle.std.specs.Prelude.{◌&&◌, ◌||◌}
use Rattle.m51_flat.specs.declared.state.Cpu.{Cpu}
use Rattle.m51_flat.specs.declared.state.Pins.{Pins}
use Rattle.m51_flat.specs.Flags.{smod, tclk, tf0, tf1, tr1}
use Rattle.m51_flat.specs.Sfr.{flag, latch, pcon, t2con, tcon, th0, tl0, th1, tl1, tmod}
use Rattle.m51_timers_uart.specs.declared.counting.Counted.{Counted}
use Rattle.m51_timers_uart.specs.declared.counting.TimerMode.{TimerMode}
use Rattle.m51_timers_uart.specs.declared.levels.Levels.{Levels}
use Rattle.m51_timers_uart.specs.declared.periph.Periph.{Periph}
use Rattle.m51_timers_uart.specs.declared.receiving.Frame.{Frame}
use Rattle.m51_timers_uart.specs.Counting.{counted_in}
use Rattle.m51_timers_uart.specs.KeptLaws.{TimerZeroIsTold}
use Rattle.m51_timers_uart.specs.RowLaws.{HasRate, RunsFree}
use Rattle.m51_timers_uart.specs.Tick.{levels_met, ticked}
use Rattle.m51_timers_uart.specs.Timers.{Timed, bytes_at, counted0, counted1, counts0, counts1, flagged, is_split}
use Rattle.m51_timers_uart.specs.Timers.{mode0}
use Rattle.m51_timers_uart.specs.Timers.{th0_ticked, timer0_ticked, timer1_ticked, timers_ticked, with_bytes}
use Rattle.m51_timers_uart.proofs.Kept.{Byte, Place, Writes, all, bit_kept, avoids, both_write, bytes_kept}
use Rattle.m51_timers_uart.proofs.Kept.{counted_bytes, end_writes}
use Rattle.m51_timers_uart.proofs.Kept.{first_write, is_kept, is_set, later_writes, latch_kept, pair, spares}
use Rattle.m51_timers_uart.proofs.Kept.{tick_writes, timer0_writes}
use Rattle.m51_timers_uart.proofs.Resting.{th0_stays}

pub mode_kept : {ws : List Place} {x y : Cpu} → all (avoids tmod) ws ≡ true → Writes ws x y
    → is_split (mode0 x) ≡ false → is_split (mode0 y) ≡ false
unfolding flag
mode_kept t w h = rw (latch_kept tmod t w) h

-- the bytes of timer 0 after a tick
either_way : (b : Bool) (cpu : Cpu) (c : Counted) → length cpu.regs ≡ 128
    → bytes_at th0 tl0 (cond b (counted0 c cpu) cpu) ≡ cond b c.bytes (bytes_at th0 tl0 cpu)
either_way true cpu c n = counted_bytes th0 tl0 tf0 c.overflow c.bytes cpu refl n
either_way false cpu c n = refl

timer0_told : (levels : Levels) (cpu : Cpu) → length cpu.regs ≡ 128
    → bytes_at th0 tl0 (timer0_ticked levels cpu)
    ≡ cond (counts0 levels cpu) (counted_in (mode0 cpu) (bytes_at th0 tl0 cpu)).bytes (bytes_at th0 tl0 cpu)
unfolding timer0_ticked
timer0_told levels cpu n = either_way (counts0 levels cpu) cpu (counted_in (mode0 cpu) (bytes_at th0 tl0 cpu)) n

pub timer_0_is_told : TimerZeroIsTold
timer_0_is_told cpu ext fs p n h =
    let levels = levels_met p cpu ext in
    let one = timer0_ticked levels cpu in
    bytes_kept th0 tl0 refl refl (later_writes cpu ext fs p)
    ∙ ap (λ (c : Cpu). bytes_at th0 tl0 c) (th0_stays one (mode_kept refl (timer0_writes levels cpu) h))
    ∙ timer0_told levels cpu n

-- timer 1 runs free, and counts in each cycle
pub runs_on : (mode : TimerMode) (old new : Cpu) → latch new tmod ≡ latch old tmod
    → flag new tcon tr1 ≡ flag old tcon tr1
    → RunsFree mode old → RunsFree mode new
unfolding flag
runs_on mode old new e t f = record {
  mode_is = rw e f.mode_is;
  runs = t ∙ f.runs;
  gate = rw e f.gate;
  counter = rw e f.counter;
}

free_kept : (mode : TimerMode) {ws : List Place} {x y : Cpu} → all (avoids tmod) ws ≡ true
    → is_kept tcon tr1 ws ≡ true → Writes ws x y → length x.regs ≡ 128 → RunsFree mode x → RunsFree mode y
free_kept mode {ws} {x} {y} t k w n f = runs_on mode x y (latch_kept tmod t w) (spares tcon tr1 k w n).0 f

counts_free : (mode : TimerMode) (levels : Levels) (cpu : Cpu) → is_split mode ≡ false → RunsFree mode cpu
    → counts1 levels cpu ≡ true
unfolding counts1
counts_free mode levels cpu h f = grind (arith, ap is_split f.mode_is, f.runs, f.gate, f.counter)

pub timer1_free : (mode : TimerMode) (levels : Levels) (cpu : Cpu) → is_split mode ≡ false → RunsFree mode cpu
    → timer1_ticked levels cpu ≡ counted1 (counted_in mode (bytes_at th1 tl1 cpu)) cpu
unfolding timer1_ticked
timer1_free mode levels cpu h f = rw (counts_free mode levels cpu h f, f.mode_is) refl

-- timer 1 of a tick: it overflows as its count does, and holds the bytes of its count
pub record IsCounted (c : Counted) (overflow : Bool) (new : Cpu) : Type 0 where
  pub overflows : overflow ≡ c.overflow
  pub bytes : bytes_at th1 tl1 new ≡ c.bytes

-- what timer 1 makes of a cycle
one_is : (mode : TimerMode) (levels : Levels) (cpu : Cpu) → is_split mode ≡ false → length cpu.regs ≡ 128
    → RunsFree mode cpu
    → timers_ticked levels cpu
    ≡ counted1 (counted_in mode (bytes_at th1 tl1 cpu)) (th0_ticked (timer0_ticked levels cpu))
one_is mode levels cpu h n f =
    let start = th0_ticked (timer0_ticked levels cpu) in
    let first = first_write levels cpu in
    timer1_free mode levels start h (free_kept mode refl refl first n f)
    ∙ ap (λ t. counted1 (counted_in mode t) start) (bytes_kept th1 tl1 refl refl first)

pub timer1_counts : (mode : TimerMode) (cpu : Cpu) (ext : Pins) (fs : List Frame) (p : Periph) → is_split mode ≡ false
    → length cpu.regs ≡ 128 → RunsFree mode cpu
    → IsCounted (counted_in mode (bytes_at th1 tl1 cpu)) (timers_ticked (levels_met p cpu ext) cpu).overflow
    (ticked cpu ext fs p).cpu
timer1_counts mode cpu ext fs p h n f =
    let levels = levels_met p cpu ext in
    let one = one_is mode levels cpu h n f in
    let size = (spares tcon tr1 refl (first_write levels cpu) n).1 in
    record {
      overflows = ap (λ (t : Timed). t.overflow) one;
      bytes = bytes_kept th1 tl1 refl refl (end_writes cpu ext fs p)
          ∙ ap (λ (t : Timed). bytes_at th1 tl1 t.cpu) one ∙ counted_bytes th1 tl1 tf1 _ _ _ refl size;
    }

-- TF1 after a cycle in which timer 0 is not in mode 3
flag_set : (b : Bool) (cpu : Cpu) → length cpu.regs ≡ 128 → flag (flagged b tf1 cpu) tcon tf1 ≡ (b || flag cpu tcon tf1)
unfolding flagged
flag_set true cpu n = (is_set tcon tf1 cpu refl n).0
flag_set false cpu n = refl

pub tf1_told : (mode : TimerMode) (cpu : Cpu) (ext : Pins) (fs : List Frame) (p : Periph) → is_split mode ≡ false
    → length cpu.regs ≡ 128 → RunsFree mode cpu
    → is_split (mode0 cpu) ≡ false
    → flag (ticked cpu ext fs p).cpu tcon tf1 ≡ ((counted_in mode (bytes_at th1 tl1 cpu)).overflow || flag cpu tcon tf1)
tf1_told mode cpu ext fs p h n f split0 =
    let levels = levels_met p cpu ext in
    let zero = timer0_writes levels cpu in
    let start = timer0_ticked levels cpu in
    let none = mode_kept refl zero split0 in
    let alone = th0_stays start none in
    let c = counted_in mode (bytes_at th1 tl1 cpu) in
    let first = spares tcon tf1 refl zero n in
    let bytes : Writes (Byte th1 ∷ Byte tl1 ∷ []) start (with_bytes th1 tl1 c.bytes start) =
    pair th1 tl1 c.bytes start refl refl in
    let second = spares tcon tf1 refl bytes first.1 in
    let one : timers_ticked levels cpu ≡ counted1 c start =
    one_is mode levels cpu h n f ∙ ap (λ (x : Cpu). counted1 c x) alone in
    (spares tcon tf1 refl (end_writes cpu ext fs p) (spares tcon tr1 refl (both_write levels cpu) n).1).0
    ∙ ap (λ (t : Timed). flag t.cpu tcon tf1) one
    ∙ flag_set (c.overflow && not (is_split (mode0 start))) (with_bytes th1 tl1 c.bytes start) second.1
    ∙ grind (arith, none, second.0, first.0)

-- after the tick it runs free still, and the rate is the same
pub still_free : (mode : TimerMode) (cpu : Cpu) (ext : Pins) (fs : List Frame) (p : Periph) → length cpu.regs ≡ 128
    → RunsFree mode cpu → RunsFree mode (ticked cpu ext fs p).cpu
still_free mode cpu ext fs p n f = free_kept mode refl refl (tick_writes cpu ext fs p) n f

pub rate_kept : (twice : Bool) {ws : List Place} {x y : Cpu} → all (avoids pcon) ws ≡ true
    → is_kept t2con tclk ws ≡ true → Writes ws x y → length x.regs ≡ 128 → HasRate twice x → HasRate twice y
rate_kept twice t k w n r = record {
  timer2 = (spares t2con tclk k w n).0 ∙ r.timer2;
  smod_is = bit_kept pcon smod t w ∙ r.smod_is;
}

pub still_rated : (twice : Bool) (cpu : Cpu) (ext : Pins) (fs : List Frame) (p : Periph) → length cpu.regs ≡ 128
    → HasRate twice cpu → HasRate twice (ticked cpu ext fs p).cpu
still_rated twice cpu ext fs p n r = rate_kept twice refl refl (tick_writes cpu ext fs p) n r

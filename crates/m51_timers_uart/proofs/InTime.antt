-- Timer 1, and a byte of mode 1, over consecutive machine cycles.
use Rattle.std.proofs.Common.{◌≡◌, ℕ, suc, ◌+◌, Bool, true, false, List, [], ◌∷◌, ◌++◌, length, refl, ap, ◌∙◌, subst}
use Rattle.std.proofs.Common.{arith, ◌≢◌, ◌⊎◌, zero, ◌-◌, ◌*◌, ◌<◌, sym, inl, inr}
use Rattle.std.specs.Prelude.{◌||◌, Some, None}
use Rattle.std.proofs.Math.Nat.{suc-mul, zero-mul}
use Rattle.std.proofs.lemmas.Bool.Decides.{eqb_tells}
use Rattle.m51_alu.specs.Arithmetic.{bit_of}
use Rattle.m51_flat.specs.declared.state.Cpu.{Cpu}
use Rattle.m51_flat.specs.Flags.{tf1, ti}
use Rattle.m51_flat.specs.Sfr.{flag, tcon, th1, tl1, latch, scon}
use Rattle.m51_flat.specs.declared.state.Pins.{Pins}
use Rattle.m51_timers_uart.specs.declared.counting.TimerBytes.{TimerBytes}
use Rattle.m51_timers_uart.specs.declared.counting.TimerMode.{TimerMode}
use Rattle.m51_timers_uart.specs.declared.periph.Periph.{Periph}
use Rattle.m51_timers_uart.specs.declared.counting.Counted.{Counted}
use Rattle.m51_timers_uart.specs.declared.counting.TimerMode.TheVariants.{Reloaded}
use Rattle.m51_timers_uart.specs.declared.receiving.Frame.{Frame}
use Rattle.m51_timers_uart.specs.CountLaws.{after_counts, AreTimerBytes}
use Rattle.m51_timers_uart.specs.Counting.{counted_in, counter_value}
use Rattle.m51_timers_uart.specs.LineLaws.{Cycle, cycled, written_to, AreQuiet, after_cycles}
use Rattle.m51_timers_uart.specs.RowLaws.{AreInRow, LeavesTimer1, RunsFree, TimerOneCountsCycles, cpu_after, HasRate}
use Rattle.m51_timers_uart.specs.RowLaws.{IsSentAt, LeavesRate, ModeOneIsSentAtItsCycle, cycles_to_send}
use Rattle.m51_timers_uart.specs.Timers.{bytes_at, is_split, mode0, timers_ticked}
use Rattle.m51_timers_uart.specs.RateLaws.{IsRatedBy, LineTick, overflows_of_bit, tick_line}
use Rattle.m51_timers_uart.specs.Sending.{Ticked, begun}
use Rattle.m51_timers_uart.specs.Tick.{inputs_ticked, levels_met, ticked}
use Rattle.m51_timers_uart.specs.Timer2.{timer2_ticked}
use Rattle.m51_timers_uart.proofs.Counts.{timers_count_up, counts_over, counts_plain}
use Rattle.m51_timers_uart.proofs.Running.{runs_on, still_free, tf1_told, timer1_counts, rate_kept, still_rated}
use Rattle.m51_timers_uart.proofs.Kept.{inputs_write, is_set, spares, timers_write}
use Rattle.m51_timers_uart.proofs.Rates.{Ends, Goes, OnItsWay, begins, last, step}

-- timer 1 after `k` counts from these bytes, still running free
record IsAfter (mode : TimerMode) (t : TimerBytes) (k : ℕ) (cpu : Cpu) : Type 0 where
  free : RunsFree mode cpu
  bytes : bytes_at th1 tl1 cpu ≡ after_counts mode k t

runs_after : (mode : TimerMode) (t : TimerBytes) (k : ℕ) (left cpu : Cpu) → LeavesTimer1 left cpu
    → IsAfter mode t k left → IsAfter mode t k cpu
runs_after mode t k left cpu l w =
    record { free = runs_on mode left cpu l.mode l.runs w.free; bytes = l.bytes ∙ w.bytes }

one_cycle : (mode : TimerMode) (t : TimerBytes) (k : ℕ) (c : Cycle) (p : Periph) → is_split mode ≡ false
    → length c.cpu.regs ≡ 128
    → IsAfter mode t k c.cpu → IsAfter mode t (suc k) (cycled c p).cpu
one_cycle mode t k c p h n w =
    let q = written_to c.cpu c.written p in
    record {
      free = still_free mode c.cpu c.ext c.frames q n w.free;
      bytes = (timer1_counts mode c.cpu c.ext c.frames q h n w.free).bytes
          ∙ ap (λ u. (counted_in mode u).bytes) w.bytes;
    }

-- the last of them
record IsLast (mode : TimerMode) (t : TimerBytes) (k : ℕ) (final new : Cpu) : Type 0 where
  bytes : bytes_at th1 tl1 new ≡ after_counts mode (suc k) t
  told : flag new tcon tf1 ≡ ((counted_in mode (after_counts mode k t)).overflow || flag final tcon tf1)

all_cycles : (mode : TimerMode) (t : TimerBytes) (k n : ℕ) (left : Cpu) (p : Periph) (before : List Cycle)
    (final : Cycle)
    → n ≡ length before + k → is_split mode ≡ false → IsAfter mode t k left
    → AreInRow LeavesTimer1 left p (before ++ final ∷ []) → is_split (mode0 final.cpu) ≡ false
    → IsLast mode t n final.cpu (cpu_after before final p)
all_cycles mode t k n left p [] final e h w row split0 =
    let q = written_to final.cpu final.written p in
    let now = runs_after mode t k left final.cpu row.0 w in
    let same : n ≡ k = omega (arith, e) in
    rw same (record {
      bytes = (one_cycle mode t k final p h row.0.size now).bytes;
      told = tf1_told mode final.cpu final.ext final.frames q h row.0.size now.free split0
          ∙ ap (λ u. (counted_in mode u).overflow || flag final.cpu tcon tf1) now.bytes;
    })
all_cycles mode t k n left p (c ∷ cs) final e h w row split0 =
    let next = one_cycle mode t k c p h row.0.size (runs_after mode t k left c.cpu row.0 w) in
    all_cycles mode t (suc k) n (cycled c p).cpu (cycled c p).periph cs final (omega (arith, e)) h next row.1 split0

pub timer_1_counts_cycles : TimerOneCountsCycles
timer_1_counts_cycles mode cpu p before final h free bytes row split0 =
    let t = bytes_at th1 tl1 cpu in
    let n = length before in
    let start : IsAfter mode t 0 cpu = record { free = free; bytes = refl } in
    let is = all_cycles mode t 0 n cpu p before final (omega arith) h start row split0 in
    let up = timers_count_up mode t bytes in
    record {
      number = λ lt. ap (counter_value mode) is.bytes
          ∙ up.number (suc n) (omega (arith, lt))
          ∙ (let e : counter_value mode t + suc n ≡ counter_value mode t + (n + 1) = omega arith in e);
      stays = λ lt. is.told ∙ rw (up.before n (omega (arith, lt))) refl;
      reload = λ e. ap (counter_value mode) is.bytes ∙ up.reload n (omega (arith, e));
      overflow = λ e. is.told ∙ rw (up.overflow n (omega (arith, e))) refl;
    }

-- what a tick gives the line: the processor, and the overflows of timers 1 and 2
abbrev line_of : Cpu → Pins → Periph → LineTick
line_of cpu ext p =
    let one = timers_ticked (levels_met p cpu ext) cpu in
    let two = timer2_ticked (levels_met p cpu ext) one.cpu in
    record { cpu = two.cpu; timer1 = one.overflow; timer2 = two.overflows }

-- the cycles to an overflow that `more` others precede
abbrev cycles_left : ℕ → TimerBytes → ℕ
cycles_left more t = (256 - t.low) + more * (256 - t.high)

-- a byte on its way, `due` cycles before its end
record IsDue (twice : Bool) (byte due : ℕ) (cpu : Cpu) (p : Periph) : Type 0 where
  passed : ℕ
  more : ℕ
  free : RunsFree Reloaded cpu
  rated : HasRate twice cpu
  bytes : AreTimerBytes (bytes_at th1 tl1 cpu)
  sum : passed + suc more ≡ 9 * overflows_of_bit twice
  due_is : due ≡ cycles_left more (bytes_at th1 tl1 cpu)
  way : OnItsWay (overflows_of_bit twice) byte passed p

-- it is so still when the next tick comes
meets : (twice : Bool) (byte due : ℕ) (left cpu : Cpu) (p : Periph) → LeavesRate left cpu → IsDue twice byte due left p
    → IsDue twice byte due cpu p
meets twice byte due left cpu p l w = record {
  passed = w.passed;
  more = w.more;
  free = runs_on Reloaded left cpu l.timer.mode l.timer.runs w.free;
  rated = record { timer2 = l.timer2 ∙ w.rated.timer2; smod_is = l.rate ∙ w.rated.smod_is };
  bytes = rw l.timer.bytes w.bytes;
  sum = w.sum;
  due_is = w.due_is ∙ sym (ap (cycles_left w.more) l.timer.bytes);
  way = w.way;
}

line_rated : (twice : Bool) (cpu : Cpu) (ext : Pins) (p : Periph) → length cpu.regs ≡ 128 → HasRate twice cpu
    → IsRatedBy twice (line_of cpu ext p)
line_rated twice cpu ext p n r =
    let c = rate_kept twice refl refl (timers_write (levels_met p cpu ext) cpu) n r in
    record { timer1_rates = c.timer2; smod_is = c.smod_is }

-- after a tick that sends nothing
record Next (twice : Bool) (byte due : ℕ) (cpu : Cpu) (t : Ticked) : Type 0 where
  none : t.sent ≡ None
  stays : flag t.cpu scon ti ≡ flag cpu scon ti
  left : ℕ
  fewer : due ≡ suc left
  goes : IsDue twice byte left t.cpu t.periph

flag_kept : (cpu : Cpu) (ext : Pins) (fs : List Frame) (p : Periph) → length cpu.regs ≡ 128
    → (tick_line (line_of cpu ext p) p).cpu ≡ (line_of cpu ext p).cpu
    → flag (inputs_ticked (levels_met p cpu ext) fs (tick_line (line_of cpu ext p) p)).cpu scon ti ≡ flag cpu scon ti
flag_kept cpu ext fs p n same =
    let clocks = spares scon ti refl (timers_write (levels_met p cpu ext) cpu) n in
    let t = tick_line (line_of cpu ext p) p in
    let size : length t.cpu.regs ≡ 128 = rw same clocks.1 in
    (spares scon ti refl (inputs_write (levels_met p cpu ext) fs t) size).0
    ∙ ap (λ (c : Cpu). flag c scon ti) same ∙ clocks.0

goes_to : (twice : Bool) (byte due left more passed : ℕ) (bytes : TimerBytes) (cpu : Cpu) (ext : Pins) (fs : List Frame)
    (p : Periph)
    → length cpu.regs ≡ 128 → RunsFree Reloaded cpu → HasRate twice cpu → AreTimerBytes bytes
    → bytes_at th1 tl1 (ticked cpu ext fs p).cpu ≡ bytes → passed + suc more ≡ 9 * overflows_of_bit twice
    → left ≡ cycles_left more bytes → due ≡ suc left
    → Goes (overflows_of_bit twice) byte passed (line_of cpu ext p).cpu (tick_line (line_of cpu ext p) p)
    → Next twice byte due cpu (ticked cpu ext fs p)
unfolding ticked
goes_to twice byte due left more passed bytes cpu ext fs p n free rated b is sum left_is fewer g =
    let way = g.way in
    record {
      none = g.sent;
      stays = flag_kept cpu ext fs p n g.same;
      left = left;
      fewer = fewer;
      goes = record {
        passed = passed;
        more = more;
        free = still_free Reloaded cpu ext fs p n free;
        rated = still_rated twice cpu ext fs p n rated;
        bytes = rw is b;
        sum = sum;
        due_is = left_is ∙ sym (ap (cycles_left more) is);
        way = record {
          mode = way.mode;
          is = way.is;
          ninth = way.ninth;
          some = way.some;
          counted = way.counted;
          rest = way.rest;
        };
      };
    }

none_later : (first later more : ℕ) → more ≡ 0 → first + more * later ≡ first + 0
none_later first later more h = rw (h, zero-mul later) refl

-- a cycle before the last
goes : (twice : Bool) (byte due more : ℕ) (cpu : Cpu) (ext : Pins) (fs : List Frame) (p : Periph)
    → length cpu.regs ≡ 128
    → (w : IsDue twice byte due cpu p) → w.more ≡ more → 1 < due → (latch cpu tl1 + 1 ≡ 256) ⊎ (latch cpu tl1 + 1 ≢ 256)
    → Next twice byte due cpu (ticked cpu ext fs p)
goes twice byte due more cpu ext fs p n w m lt (inr ne) =
    let t = bytes_at th1 tl1 cpu in
    let low = w.bytes.low in
    let sum = w.sum in
    let due_is = w.due_is in
    let plain = counts_plain Reloaded t ne in
    let counts = timer1_counts Reloaded cpu ext fs p refl n w.free in
    let bit : bit_of (line_of cpu ext p).timer1 ≡ 0 = rw (counts.overflows, plain) refl in
    goes_to twice byte due _ w.more (w.passed + bit_of (line_of cpu ext p).timer1)
    (record { high = t.high; low = t.low + 1 }) cpu ext fs p n w.free w.rated
    (record { high = w.bytes.high; low = omega (arith, low, ne) })
    (counts.bytes ∙ ap (λ (c : Counted). c.bytes) plain) (omega (arith, sum, bit)) refl (omega (arith, low, ne, due_is))
    (step twice byte w.passed (line_of cpu ext p) p (line_rated twice cpu ext p n w.rated) w.way
    (omega (arith, sum, bit)))
goes twice byte due zero cpu ext fs p n w m lt (inl e) =
    let none = w.due_is ∙ none_later (256 - latch cpu tl1) (256 - latch cpu th1) w.more m in
    absurd (omega (arith, e, none, lt))
goes twice byte due (suc more) cpu ext fs p n w m lt (inl e) =
    let t = bytes_at th1 tl1 cpu in
    let over = counts_over Reloaded t e in
    let counts = timer1_counts Reloaded cpu ext fs p refl n w.free in
    let bit : bit_of (line_of cpu ext p).timer1 ≡ 1 = rw (counts.overflows, over) refl in
    let sum : w.passed + suc (suc more) ≡ 9 * overflows_of_bit twice = rw m at w.sum in
    let product : w.more * (256 - t.high) ≡ more * (256 - t.high) + (256 - t.high) =
    rw m (suc-mul more (256 - t.high)) in
    let due_is = w.due_is in
    goes_to twice byte due _ more (w.passed + bit_of (line_of cpu ext p).timer1)
    (record { high = t.high; low = t.high }) cpu ext fs p n w.free w.rated
    (record { high = w.bytes.high; low = w.bytes.high })
    (counts.bytes ∙ ap (λ (c : Counted). c.bytes) over)
    (omega (arith, sum, bit)) refl (omega (arith, e, product, due_is))
    (step twice byte w.passed (line_of cpu ext p) p (line_rated twice cpu ext p n w.rated) w.way
    (omega (arith, sum, bit)))

low_tells : (cpu : Cpu) → (latch cpu tl1 + 1 ≡ 256) ⊎ (latch cpu tl1 + 1 ≢ 256)
low_tells cpu = elim (eqb_tells (latch cpu tl1 + 1) 256) [ inl t ↦ inl t.1 | inr t ↦ inr t.1 ]

next : (twice : Bool) (byte due : ℕ) (cpu : Cpu) (ext : Pins) (fs : List Frame) (p : Periph) → length cpu.regs ≡ 128
    → IsDue twice byte due cpu p → 1 < due → Next twice byte due cpu (ticked cpu ext fs p)
next twice byte due cpu ext fs p n w lt = goes twice byte due w.more cpu ext fs p n w refl lt (low_tells cpu)

-- the last cycle
abbrev IsOver : ℕ → Ticked → Type 0
IsOver byte t = (t.sent ≡ Some (record { byte = byte; ninth = None })) × (flag t.cpu scon ti ≡ true)

flag_set : (byte : ℕ) (cpu : Cpu) (ext : Pins) (fs : List Frame) (p : Periph) → length cpu.regs ≡ 128
    → Ends byte (line_of cpu ext p).cpu (tick_line (line_of cpu ext p) p)
    → IsOver byte (ticked cpu ext fs p)
unfolding ticked
flag_set byte cpu ext fs p n ends =
    let clocks = spares scon ti refl (timers_write (levels_met p cpu ext) cpu) n in
    let set = is_set scon ti (line_of cpu ext p).cpu refl clocks.1 in
    let t = tick_line (line_of cpu ext p) p in
    let size : length t.cpu.regs ≡ 128 = rw ends.flagged set.1 in (
      ends.sent,
      (spares scon ti refl (inputs_write (levels_met p cpu ext) fs t) size).0
          ∙ ap (λ (c : Cpu). flag c scon ti) ends.flagged ∙ set.0,
    )

over : (twice : Bool) (byte due more : ℕ) (cpu : Cpu) (ext : Pins) (fs : List Frame) (p : Periph)
    → length cpu.regs ≡ 128
    → (w : IsDue twice byte due cpu p) → w.more ≡ more → due ≡ 1 → IsOver byte (ticked cpu ext fs p)
over twice byte due zero cpu ext fs p n w m one =
    let t = bytes_at th1 tl1 cpu in
    let low = w.bytes.low in
    let due_is = w.due_is ∙ none_later (256 - t.low) (256 - t.high) w.more m in
    let e : t.low + 1 ≡ 256 = omega (arith, low, due_is, one) in
    let counts = timer1_counts Reloaded cpu ext fs p refl n w.free in
    let bit : bit_of (line_of cpu ext p).timer1 ≡ 1 = rw (counts.overflows, counts_over Reloaded t e) refl in
    let sum : w.passed + 1 ≡ 9 * overflows_of_bit twice = rw m at w.sum in
    flag_set byte cpu ext fs p n
    (last twice byte w.passed (line_of cpu ext p) p (line_rated twice cpu ext p n w.rated) w.way
    (omega (arith, sum, bit)))
over twice byte due (suc more) cpu ext fs p n w m one =
    let t = bytes_at th1 tl1 cpu in
    let product : w.more * (256 - t.high) ≡ more * (256 - t.high) + (256 - t.high) =
    rw m (suc-mul more (256 - t.high)) in
    let low = w.bytes.low in
    let high = w.bytes.high in
    let due_is = w.due_is in
    absurd (omega (arith, low, high, product, due_is, one))

cycled_is : (c : Cycle) (p : Periph) → c.written ≡ None → cycled c p ≡ ticked c.cpu c.ext c.frames p
cycled_is c p h = ap (λ o. ticked c.cpu c.ext c.frames (written_to c.cpu o p)) h

sent_at : (twice : Bool) (byte due : ℕ) (left : Cpu) (p : Periph) (before : List Cycle) (final : Cycle)
    → IsDue twice byte due left p
    → AreQuiet (before ++ final ∷ []) → AreInRow LeavesRate left p (before ++ final ∷ [])
    → IsSentAt due byte (length before + 1) final (after_cycles before p)
sent_at twice byte due left p [] final w quiet row =
    let same = cycled_is final p quiet.0 in
    let now = meets twice byte due left final.cpu p row.0 w in
    record {
      early = λ lt.
          let x = next twice byte due final.cpu final.ext final.frames p row.0.timer.size now lt in
          (ap (λ (t : Ticked). t.sent) same ∙ x.none, ap (λ (t : Ticked). flag t.cpu scon ti) same ∙ x.stays);
      sent = λ e.
          subst (IsOver byte) (sym same)
          (over twice byte due now.more final.cpu final.ext final.frames p row.0.timer.size now refl (sym e));
    }
sent_at twice byte due left p (c ∷ cs) final w quiet row =
    let same = cycled_is c p quiet.0 in
    let now = meets twice byte due left c.cpu p row.0 w in
    let go : 1 < due → Next twice byte due c.cpu (ticked c.cpu c.ext c.frames p) =
    λ lt. next twice byte due c.cpu c.ext c.frames p row.0.timer.size now lt in
    record {
      early = λ lt.
          let x = go (omega (arith, lt)) in
          let fewer = x.fewer in
          (sent_at twice byte x.left (cycled c p).cpu (cycled c p).periph cs final
          (rw same x.goes) quiet.1 row.1).early (omega (arith, lt, fewer));
      sent = λ e.
          let x = go (omega (arith, e)) in
          let fewer = x.fewer in
          (sent_at twice byte x.left (cycled c p).cpu (cycled c p).periph cs final
          (rw same x.goes) quiet.1 row.1).sent (omega (arith, e, fewer));
    }

pub sent_at_its_cycle : ModeOneIsSentAtItsCycle
sent_at_its_cycle cpu byte p twice before final mode rated free bytes quiet row =
    sent_at twice byte (cycles_to_send twice (bytes_at th1 tl1 cpu)) cpu (begun cpu byte p) before final (record {
      passed = 0;
      more = 9 * overflows_of_bit twice - 1;
      free = free;
      rated = rated;
      bytes = bytes;
      sum = grind arith;
      due_is = refl;
      way = begins twice cpu byte p mode;
    }) quiet row

-- Machine cycles in which the devices only count: each tick adds one to the low byte of each timer that runs. And those
-- in which they count, whatever comes of it: what such a cycle does is what the timers and the line do.
use Rattle.std.proofs.Common.{◌≡◌, ◌≢◌, ℕ, ◌+◌, ◌*◌, ◌/◌, ◌%◌, ◌<◌, ◌≤◌, Bool, true, false, List, []}
use Rattle.std.proofs.Common.{◌∷◌, None, refl, sym, ap, ◌∙◌, arith, length, slice_set, subst}
use Rattle.std.proofs.lemmas.Bool.{and_parts, eq-eqb, eqb-true, le-leb, leb-true, ne_eqb}
use Rattle.std.proofs.lemmas.Bool.Decides.{nat_tests}
use Rattle.std.proofs.lemmas.List.{set-set, set_comm}
use Rattle.std.specs.Prelude.{nat_le, ◌||◌, ◌==◌, if◌then◌else◌}
use Rattle.m51_flat.specs.declared.state.Cpu.{Cpu}
use Rattle.m51_flat.specs.declared.state.Pins.{Pins}
use Rattle.m51_flat.specs.Flags.{ct2, exen2, ie0, ie1, it0, it1, rclk, tclk, tr0, tr1, tr2}
use Rattle.m51_flat.specs.Sfr.{flag, found, has_register, latch, p0, p1, p2, p3, pcon, t2con, tcon, th0, th1, th2, tl0}
use Rattle.m51_flat.specs.Sfr.{tl1, tl2, tmod, with_bit, with_latch}
use Rattle.m51_timers_uart.specs.declared.counting.Counted.{Counted}
use Rattle.m51_timers_uart.specs.declared.counting.TimerBytes.{TimerBytes}
use Rattle.m51_timers_uart.specs.declared.counting.TimerMode.{TimerMode}
use Rattle.m51_timers_uart.specs.declared.counting.TimerMode.TheVariants.{ThirteenBits, SixteenBits, Reloaded, Split}
use Rattle.m51_timers_uart.specs.declared.levels.Input.{Input}
use Rattle.m51_timers_uart.specs.declared.levels.Input.TheVariants.{Int0, Int1}
use Rattle.m51_timers_uart.specs.declared.levels.Levels.{Levels}
use Rattle.m51_timers_uart.specs.declared.periph.Periph.{Periph}
use Rattle.m51_timers_uart.specs.Counting.{counted_in, counter_value, sixteen_counted}
use Rattle.m51_timers_uart.specs.Levels.{is_high, levels_of}
use Rattle.m51_timers_uart.specs.OnlyCounting.{AreCounting, DevicesCountOn, OnlyCount, counted_on, counts_whole}
use Rattle.m51_timers_uart.specs.OnlyCounting.{line_waits, low0_after, low1_after, low2_after, low_after}
use Rattle.m51_timers_uart.specs.OnlyCounting.{none_asks, timer0_is_plain, timer1_is_plain, timer2_is_plain}
use Rattle.m51_timers_uart.specs.Resting.{looked_at, request_rests}
use Rattle.m51_timers_uart.specs.Sending.{Ticked, bit_time, clocked, growth, moved, sending_ticked}
use Rattle.m51_timers_uart.specs.Tick.{clocks_ticked, inputs_ticked, levels_met, ticked}
use Rattle.m51_timers_uart.specs.Timer2.{Overflowed, counted2, counted_times, gives_rate, once_more, reload2}
use Rattle.m51_timers_uart.specs.Timer2.{timer2_ticked, times2}
use Rattle.m51_timers_uart.specs.Timers.{Timed, bytes_at, counted0, counted1, counts0, flagged, is_split, mode0, mode1}
use Rattle.m51_timers_uart.specs.Timers.{th0_ticked, timer0_ticked, timer1_ticked, timers_ticked, with_bytes}
use Rattle.m51_timers_uart.proofs.Counts.{counts_plain}
use Rattle.m51_timers_uart.proofs.Kept.{Byte, IsClear, Place, Then, Stored, Writes, both_write, clears, clocks_write}
use Rattle.m51_timers_uart.proofs.Kept.{latch_kept, latch_other, of_clocks, size_kept, spares, stored, timer0_writes}
use Rattle.m51_timers_uart.proofs.Kept.{wider}
use Rattle.m51_timers_uart.proofs.Resting.{all_same, at, counts0_not, counts1_not, latch_stays, levels_same}
use Rattle.m51_timers_uart.proofs.Resting.{request_stays}
use Rattle.m51_timers_uart.proofs.Resting.{sending_stays, t2ex_stays, th0_stays, timer0_stays, timer1_stays}
use Rattle.m51_timers_uart.proofs.Resting.{times_none}
use Rattle.m51_timers_uart.proofs.Running.{timer1_free}

-- a count that does not reach the end of the low byte adds one to it
abbrev next_low : TimerBytes → Counted
next_low t = record { bytes = record { high = t.high; low = t.low + 1 }; overflow = false }

sixteen_next : (t : TimerBytes) → t.low + 1 ≤ 255
    → ((t.high * 256 + t.low + 1) / 256 ≡ t.high) × ((t.high * 256 + t.low + 1) % 256 ≡ t.low + 1)
sixteen_next t l = (omega (arith, l), omega (arith, l))

counted_low : (mode : TimerMode) (t : TimerBytes) → counts_whole mode ≡ true → t.low + 1 ≤ 255
    → counted_in mode t ≡ next_low t
counted_low ThirteenBits t h l = cc h
counted_low SixteenBits t h l =
    let e = sixteen_next t l in rw (counts_plain SixteenBits t (λ e. omega (arith, l, e)), e.0, e.1) refl
counted_low Reloaded t h l = counts_plain Reloaded t (λ e. omega (arith, l, e))
counted_low Split t h l = cc h

sixteen_low : (reload : ℕ) (t : TimerBytes) → t.low + 1 ≤ 255 → sixteen_counted reload t ≡ next_low t
unfolding sixteen_counted
sixteen_low reload t l =
    let e = sixteen_next t l in
    let less : (counter_value SixteenBits t + 1 == 65536) ≡ false = ne_eqb _ _ (λ e. omega (arith, l, e)) in
    rw (less, e.0, e.1) refl

-- where the high byte is written as it is, only the low byte is written
low_written : (high low v : ℕ) (cpu : Cpu)
    → with_bytes high low (record { high = latch cpu high; low = v }) cpu ≡ with_latch cpu low v
low_written high low v cpu = rw (latch_stays cpu high) refl

-- timer 0, where it runs
runs0 : (levels : Levels) (cpu : Cpu) → timer0_is_plain cpu ≡ true → flag cpu tcon tr0 ≡ true
    → (counts0 levels cpu ≡ true) × (counts_whole (mode0 cpu) ≡ true)
unfolding timer0_is_plain counts0
runs0 levels cpu h r = (grind (arith, h, r), grind (arith, h, r))

pub timer0_runs : (levels : Levels) (cpu : Cpu) → timer0_is_plain cpu ≡ true → flag cpu tcon tr0 ≡ true
    → timer0_ticked levels cpu ≡ counted0 (counted_in (mode0 cpu) (bytes_at th0 tl0 cpu)) cpu
unfolding timer0_ticked
timer0_runs levels cpu h r = rw (runs0 levels cpu h r).0 refl

timer0_by : (tr : Bool) (levels : Levels) (cpu : Cpu) → flag cpu tcon tr0 ≡ tr → timer0_is_plain cpu ≡ true
    → nat_le (low_after 1 tr (latch cpu tl0)) 255 ≡ true
    → timer0_ticked levels cpu ≡ with_latch cpu tl0 (low_after 1 tr (latch cpu tl0))
unfolding flagged
timer0_by true levels cpu t h l =
    timer0_runs levels cpu h t
    ∙ ap (λ (c : Counted). counted0 c cpu)
    (counted_low (mode0 cpu) (bytes_at th0 tl0 cpu) (runs0 levels cpu h t).1 (leb-true (latch cpu tl0 + 1) 255 l))
    ∙ low_written th0 tl0 (latch cpu tl0 + 1) cpu
timer0_by false levels cpu t h l = timer0_stays levels cpu (counts0_not levels cpu t) ∙ sym (latch_stays cpu tl0)

pub timer0_counts : (levels : Levels) (cpu : Cpu) → timer0_is_plain cpu ≡ true → nat_le (low0_after 1 cpu) 255 ≡ true
    → timer0_ticked levels cpu ≡ with_latch cpu tl0 (low0_after 1 cpu)
timer0_counts levels cpu h l = timer0_by (flag cpu tcon tr0) levels cpu refl h l

pub not_split : (cpu : Cpu) → timer0_is_plain cpu ≡ true → is_split (mode0 cpu) ≡ false
unfolding timer0_is_plain
not_split cpu h = grind (arith, h)

abbrev one_timed : Cpu → Timed
one_timed cpu = record { cpu = cpu; overflow = false }

-- timer 1, where it runs
record Runs1 (levels : Levels) (cpu : Cpu) : Type 0 where
  whole : counts_whole (mode1 cpu) ≡ true
  counts : timer1_ticked levels cpu ≡ counted1 (counted_in (mode1 cpu) (bytes_at th1 tl1 cpu)) cpu

runs1 : (levels : Levels) (cpu : Cpu) → timer1_is_plain cpu ≡ true → flag cpu tcon tr1 ≡ true → Runs1 levels cpu
unfolding timer1_is_plain
runs1 levels cpu h r =
    let gate : flag cpu tmod 7 ≡ false = grind (arith, h, r) in
    let counter : flag cpu tmod 6 ≡ false = grind (arith, h, r) in
    record {
      whole = grind (arith, h, r);
      counts = timer1_free (mode1 cpu) levels cpu (grind (arith, h, r))
          (record { mode_is = refl; runs = r; gate = gate; counter = counter });
    }

pub timer1_runs : (levels : Levels) (cpu : Cpu) → timer1_is_plain cpu ≡ true → flag cpu tcon tr1 ≡ true
    → timer1_ticked levels cpu ≡ counted1 (counted_in (mode1 cpu) (bytes_at th1 tl1 cpu)) cpu
timer1_runs levels cpu h r = (runs1 levels cpu h r).counts

timer1_by : (tr : Bool) (levels : Levels) (cpu : Cpu) → flag cpu tcon tr1 ≡ tr → is_split (mode0 cpu) ≡ false
    → timer1_is_plain cpu ≡ true → nat_le (low_after 1 tr (latch cpu tl1)) 255 ≡ true
    → timer1_ticked levels cpu ≡ one_timed (with_latch cpu tl1 (low_after 1 tr (latch cpu tl1)))
unfolding flagged
timer1_by true levels cpu t s h l =
    let r = runs1 levels cpu h t in
    r.counts
    ∙ ap (λ (c : Counted). counted1 c cpu)
    (counted_low (mode1 cpu) (bytes_at th1 tl1 cpu) r.whole (leb-true (latch cpu tl1 + 1) 255 l))
    ∙ ap one_timed (low_written th1 tl1 (latch cpu tl1 + 1) cpu)
timer1_by false levels cpu t s h l =
    timer1_stays levels cpu (counts1_not levels cpu t s) ∙ ap one_timed (sym (latch_stays cpu tl1))

pub timer1_counts : (levels : Levels) (cpu : Cpu) → timer0_is_plain cpu ≡ true → timer1_is_plain cpu ≡ true
    → nat_le (low1_after 1 cpu) 255 ≡ true
    → timer1_ticked levels cpu ≡ one_timed (with_latch cpu tl1 (low1_after 1 cpu))
timer1_counts levels cpu s h l = timer1_by (flag cpu tcon tr1) levels cpu refl (not_split cpu s) h l

abbrev none_over : Cpu → Overflowed
none_over cpu = record { cpu = cpu; overflows = 0 }

counted_once : (cpu : Cpu) → latch cpu tl2 + 1 ≤ 255
    → counted_times 1 cpu ≡ none_over (with_latch cpu tl2 (latch cpu tl2 + 1))
unfolding once_more
counted_once cpu l =
    ap (λ (c : Counted). counted2 c cpu 0) (sixteen_low (reload2 cpu) (bytes_at th2 tl2 cpu) l)
    ∙ ap none_over (low_written th2 tl2 (latch cpu tl2 + 1) cpu)

times_one : (levels : Levels) (cpu : Cpu) → timer2_is_plain cpu ≡ true → flag cpu t2con tr2 ≡ true
    → times2 levels cpu ≡ 1
unfolding timer2_is_plain times2
times_one levels cpu h t = grind (arith, h, t)

no_exen2 : (cpu : Cpu) → timer2_is_plain cpu ≡ true → flag cpu t2con exen2 ≡ false
unfolding timer2_is_plain
no_exen2 cpu h = grind (arith, h)

-- TL2 is another register than T2CON
exen2_stays : (v : ℕ) (cpu : Cpu) → flag cpu t2con exen2 ≡ false → flag (with_latch cpu tl2 v) t2con exen2 ≡ false
unfolding flag
exen2_stays v cpu h = rw (latch_other tl2 t2con v cpu refl refl) h

timer2_by : (tr : Bool) (levels : Levels) (cpu : Cpu) → flag cpu t2con tr2 ≡ tr → timer2_is_plain cpu ≡ true
    → nat_le (low_after 1 tr (latch cpu tl2)) 255 ≡ true
    → timer2_ticked levels cpu ≡ none_over (with_latch cpu tl2 (low_after 1 tr (latch cpu tl2)))
timer2_by true levels cpu t h l =
    let x = exen2_stays (latch cpu tl2 + 1) cpu (no_exen2 cpu h) in
    rw (times_one levels cpu h t, counted_once cpu (leb-true (latch cpu tl2 + 1) 255 l))
    (ap none_over (t2ex_stays levels (with_latch cpu tl2 (latch cpu tl2 + 1)) x))
timer2_by false levels cpu t h l =
    rw (times_none levels cpu t) (ap none_over (t2ex_stays levels cpu (no_exen2 cpu h) ∙ sym (latch_stays cpu tl2)))

pub timer2_counts : (levels : Levels) (cpu : Cpu) → timer2_is_plain cpu ≡ true → nat_le (low2_after 1 cpu) 255 ≡ true
    → timer2_ticked levels cpu ≡ none_over (with_latch cpu tl2 (low2_after 1 cpu))
timer2_counts levels cpu h l = timer2_by (flag cpu t2con tr2) levels cpu refl h l

-- a byte on its way stays where it is without an overflow
moved_none : (cpu : Cpu) (p : Periph) → (p.mode == 1 || p.mode == 3) ≡ true
    → nat_le (bit_time cpu p.mode) p.count ≡ false → moved cpu false 0 p ≡ p
unfolding moved growth clocked
moved_none cpu p m h =
    let apart0 : (p.mode == 0) ≡ false = grind (arith, nat_tests, m) in
    let apart2 : (p.mode == 2) ≡ false = grind (arith, nat_tests, m) in
    let none : p.count + 0 ≡ p.count = omega arith in
    rw (apart0, apart2) (grow (flag cpu t2con tclk) none)
  where
    grow : (t : Bool) → p.count + 0 ≡ p.count
        → ◌≡◌ {A = Periph} (clocked (if t then 0 else 0) (bit_time cpu p.mode) p) p
    grow true none = rw (none, h) refl
    grow false none = rw (none, h) refl

abbrev only : Cpu → Periph → Ticked
only cpu p = record { cpu = cpu; periph = p; sent = None }

line_by : (none : Bool) (cpu : Cpu) (p : Periph) → (p.left == 0) ≡ none → line_waits cpu p ≡ true
    → ◌≡◌ {A = Ticked} (sending_ticked false 0 cpu p) (only cpu p)
unfolding sending_ticked line_waits
line_by true cpu p e h = sending_stays false 0 cpu p e
line_by false cpu p e h =
    let m : (p.mode == 1 || p.mode == 3) ≡ true = grind (arith, h, e) in
    let w : nat_le (bit_time cpu p.mode) p.count ≡ false = grind (arith, h, e) in
    rw (e, moved_none cpu p m w, e) refl

line_stays : (cpu : Cpu) (p : Periph) → line_waits cpu p ≡ true
    → ◌≡◌ {A = Ticked} (sending_ticked false 0 cpu p) (only cpu p)
line_stays cpu p h = line_by (p.left == 0) cpu p refl h

-- what matters to devices that count: TR0, TR1, TMOD, the bits of T2CON that say how timer 2 goes, the levels, and that
-- no external interrupt asks
pub record SameCounting (old new : Cpu) : Type 0 where
  pub runs0 : flag new tcon tr0 ≡ flag old tcon tr0
  pub runs1 : flag new tcon tr1 ≡ flag old tcon tr1
  pub modes : latch new tmod ≡ latch old tmod
  pub exen2 : flag new t2con exen2 ≡ flag old t2con exen2
  pub runs2 : flag new t2con tr2 ≡ flag old t2con tr2
  pub counter2 : flag new t2con ct2 ≡ flag old t2con ct2
  pub rates : gives_rate new ≡ gives_rate old
  pub levels : (ext : Pins) → levels_of new ext ≡ levels_of old ext
  pub clear0 : IsClear ie0 old → IsClear ie0 new
  pub clear1 : IsClear ie1 old → IsClear ie1 new

none_kept : (levels : List ℕ) (old new : ℕ) → (with_bit old ie0 false ≡ old → with_bit new ie0 false ≡ new)
    → (with_bit old ie1 false ≡ old → with_bit new ie1 false ≡ new) → none_asks levels old ≡ true
    → none_asks levels new ≡ true
unfolding none_asks
none_kept levels old new ask0 ask1 h =
    let clear1 = and_parts _ (with_bit old ie1 false == old) h in
    let clear0 = and_parts _ (with_bit old ie0 false == old) clear1.0 in
    rw (clear0.0, eq-eqb _ _ (ask0 (eqb-true _ _ clear0.1)), eq-eqb _ _ (ask1 (eqb-true _ _ clear1.1))) refl

module _ {old new : Cpu} (s : SameCounting old new) where
  plain0 : timer0_is_plain new ≡ timer0_is_plain old
  unfolding timer0_is_plain flag
  plain0 = rw (s.runs0, s.modes) refl

  plain1 : timer1_is_plain new ≡ timer1_is_plain old
  unfolding timer1_is_plain flag
  plain1 = rw (s.runs1, s.modes) refl

  plain2 : timer2_is_plain new ≡ timer2_is_plain old
  unfolding timer2_is_plain
  plain2 = rw (s.exen2, s.runs2, s.counter2, s.rates) refl

  pub same_counting : (ext : Pins) (p : Periph) → AreCounting old ext p → AreCounting new ext p
  same_counting ext p c = record {
    timer0 = plain0 ∙ c.timer0;
    timer1 = plain1 ∙ c.timer1;
    timer2 = plain2 ∙ c.timer2;
    levels = s.levels ext ∙ c.levels;
    requests = rw (s.levels ext) (none_kept (levels_of old ext) _ _ s.clear0 s.clear1 c.requests);
  }

-- so it is where the registers are the same, and for what the clocks write
looked_same : (old new : Cpu) → looked_at new ≡ looked_at old → SameCounting old new
unfolding flag gives_rate
looked_same old new h =
    let timers : latch new tcon ≡ latch old tcon = at new old h 4 in
    let modes : latch new tmod ≡ latch old tmod = at new old h 5 in
    let timer2 : latch new t2con ≡ latch old t2con = at new old h 6 in
    record {
      runs0 = rw timers refl;
      runs1 = rw timers refl;
      modes = modes;
      exen2 = rw timer2 refl;
      runs2 = rw timer2 refl;
      counter2 = rw timer2 refl;
      rates = rw timer2 refl;
      levels = λ ext. levels_same new old h ext;
      clear0 = λ c. rw timers c;
      clear1 = λ c. rw timers c;
    }

pub clocks_same : {old new : Cpu} → Writes of_clocks old new → length old.regs ≡ 128 → SameCounting old new
unfolding gives_rate levels_of found
clocks_same w n = record {
  runs0 = (spares tcon tr0 refl w n).0;
  runs1 = (spares tcon tr1 refl w n).0;
  modes = latch_kept tmod refl w;
  exen2 = (spares t2con exen2 refl w n).0;
  runs2 = (spares t2con tr2 refl w n).0;
  counter2 = (spares t2con ct2 refl w n).0;
  rates = rw ((spares t2con rclk refl w n).0, (spares t2con tclk refl w n).0) refl;
  levels = λ ext. rw (latch_kept p0 refl w, latch_kept p1 refl w, latch_kept p2 refl w, latch_kept p3 refl w) refl;
  clear0 = λ c. (clears ie0 refl w n c).0;
  clear1 = λ c. (clears ie1 refl w n c).0;
}

-- with the same registers they count as before
pub still_counting : (one other : Cpu) → looked_at one ≡ looked_at other → (ext : Pins) (p : Periph)
    → AreCounting one ext p → AreCounting other ext p
still_counting one other h ext p c = same_counting (looked_same one other (sym h)) ext p c

-- the processor after each of the timers
abbrev lows : List Place
lows = Byte tl0 ∷ Byte tl1 ∷ Byte tl2 ∷ []

module _ (cpu : Cpu) (a b c : ℕ) where
  abbrev first : Cpu
  first = with_latch cpu tl0 a

  abbrev second : Cpu
  second = with_latch first tl1 b

  abbrev third : Cpu
  third = with_latch second tl2 c

  first_written : Writes lows cpu first
  first_written = Stored tl0 a cpu refl

  second_written : Writes lows cpu second
  second_written = Then first_written (Stored tl1 b first refl)

  third_written : Writes lows cpu third
  third_written = Then second_written (Stored tl2 c second refl)

  lows_written : length cpu.regs ≡ 128 → (latch third tl0 ≡ a) × (latch third tl1 ≡ b) × (latch third tl2 ≡ c)
  lows_written n =
      let one = size_kept tl0 a cpu ∙ n in
      let two = size_kept tl1 b first ∙ one in (
        rw (latch_other tl2 tl0 c second refl refl, latch_other tl1 tl0 b first refl refl) (stored tl0 a cpu refl n),
        rw (latch_other tl2 tl1 c second refl refl) (stored tl1 b first refl one),
        stored tl2 c second refl two,
      )

looked_kept : {old new : Cpu} → Writes lows old new → looked_at new ≡ looked_at old
looked_kept {old} {new} w =
    all_same new old (latch_kept p0 refl w) (latch_kept p1 refl w) (latch_kept p2 refl w) (latch_kept p3 refl w)
    (latch_kept tcon refl w) (latch_kept tmod refl w) (latch_kept t2con refl w)

line_kept : {old new : Cpu} → Writes lows old new → (p : Periph) → line_waits new p ≡ line_waits old p
unfolding line_waits bit_time flag
line_kept w p = rw (latch_kept t2con refl w, latch_kept pcon refl w) refl

low_same : (n : ℕ) (one other : Cpu) (control bit low : ℕ) → latch one control ≡ latch other control
    → latch one low ≡ latch other low
    → low_after n (flag one control bit) (latch one low) ≡ low_after n (flag other control bit) (latch other low)
unfolding flag
low_same n one other control bit low c l = rw (c, l) refl

clocks_count : (levels : Levels) (cpu : Cpu) (ext : Pins) (p : Periph) → OnlyCount 1 cpu ext p
    → clocks_ticked levels cpu p ≡ only (counted_on 1 cpu) p
unfolding counted_on
clocks_count levels cpu ext p h =
    let a = low0_after 1 cpu in
    let b = low1_after 1 cpu in
    let c = low2_after 1 cpu in
    let one = first cpu a b c in
    let two = second cpu a b c in
    let w1 = first_written cpu a b c in
    let w2 = second_written cpu a b c in
    let w3 = third_written cpu a b c in
    let low1 : low1_after 1 one ≡ b =
    low_same 1 one cpu tcon tr1 tl1 (latch_kept tcon refl w1) (latch_other tl0 tl1 a cpu refl refl) in
    let low2 : low2_after 1 two ≡ c =
    low_same 1 two cpu t2con tr2 tl2 (latch_kept t2con refl w2)
    (latch_other tl1 tl2 b one refl refl ∙ latch_other tl0 tl2 a cpu refl refl) in
    let same1 = looked_same cpu one (looked_kept w1) in
    let plain0 = plain0 same1 ∙ h.counting.timer0 in
    let timer1 = timer1_counts levels one plain0 (plain1 same1 ∙ h.counting.timer1) (rw low1 h.low1) in
    let timer2 = timer2_counts levels two (plain2 (looked_same cpu two (looked_kept w2)) ∙ h.counting.timer2)
    (rw low2 h.low2) in
    ap (λ (x : Cpu). sent_after levels p (timer1_ticked levels (th0_ticked x)))
    (timer0_counts levels cpu h.counting.timer0 h.low0)
    ∙ ap (λ (x : Cpu). sent_after levels p (timer1_ticked levels x)) (th0_stays one (not_split one plain0))
    ∙ ap (sent_after levels p) (timer1 ∙ ap (λ n. one_timed (with_latch one tl1 n)) low1)
    ∙ ap (λ (o : Overflowed). sending_ticked false o.overflows o.cpu p)
    (timer2 ∙ ap (λ n. none_over (with_latch two tl2 n)) low2)
    ∙ line_stays (third cpu a b c) p (line_kept w3 p ∙ h.line)
  where
    sent_after : Levels → Periph → Timed → Ticked
    sent_after levels p one =
        let two = timer2_ticked levels one.cpu in sending_ticked one.overflow two.overflows two.cpu p

counted_writes : (n : ℕ) (cpu : Cpu) → Writes lows cpu (counted_on n cpu)
unfolding counted_on
counted_writes n cpu = third_written cpu (low0_after n cpu) (low1_after n cpu) (low2_after n cpu)

-- a pin that is 1, where no request is kept
high_rests : (levels : Levels) (pin : Input) (it ask byte : ℕ) → is_high levels pin ≡ true
    → (with_bit byte ask false == byte) ≡ true → request_rests levels pin it ask byte ≡ true
unfolding request_rests
high_rests levels pin it ask byte h k = rw h (grind (arith, k))

-- so the external interrupts change nothing
abbrev pub with_levels : List ℕ → Ticked → Ticked
with_levels levels t = record { cpu = t.cpu; periph = record t.periph { levels = levels }; sent = t.sent }

requests_stay : (levels : Levels) (t : Ticked) → none_asks levels.present (latch t.cpu tcon) ≡ true
    → inputs_ticked levels [] t ≡ with_levels levels.present t
unfolding none_asks
requests_stay levels t none =
    let byte = latch t.cpu tcon in
    let clear1 = and_parts _ (with_bit byte ie1 false == byte) none in
    let clear0 = and_parts _ (with_bit byte ie0 false == byte) clear1.0 in
    let highs = and_parts (is_high levels Int0) (is_high levels Int1) clear0.0 in
    rw (
      request_stays levels Int0 it0 ie0 t.cpu (high_rests levels Int0 it0 ie0 byte highs.0 clear0.1),
      request_stays levels Int1 it1 ie1 t.cpu (high_rests levels Int1 it1 ie1 byte highs.1 clear1.1),
    ) refl

-- one tick
tick_counts : (cpu : Cpu) (ext : Pins) (p : Periph) → OnlyCount 1 cpu ext p
    → ticked cpu ext [] p ≡ only (counted_on 1 cpu) p
unfolding ticked
tick_counts cpu ext p h =
    let levels = levels_met p cpu ext in
    let next = counted_on 1 cpu in
    let tcon_stays : latch next tcon ≡ latch cpu tcon = latch_kept tcon refl (counted_writes 1 cpu) in
    ap (inputs_ticked levels []) (clocks_count levels cpu ext p h)
    ∙ requests_stay levels (only next p) (rw tcon_stays h.counting.requests)
    ∙ ap (λ (l : List ℕ). with_levels l (only next p)) h.counting.levels

-- counts one after another
low_more : (k : ℕ) (runs : Bool) (low : ℕ) → low_after 1 runs (low_after k runs low) ≡ low_after (k + 1) runs low
low_more k true low = omega arith
low_more k false low = refl

low_less : (k n : ℕ) (runs : Bool) (low : ℕ) → k < n → nat_le (low_after n runs low) 255 ≡ true
    → nat_le (low_after (k + 1) runs low) 255 ≡ true
low_less k n true low h l = let below = leb-true (low + n) 255 l in le-leb (low + (k + 1)) 255 (omega (arith, h, below))
low_less k n false low h l = l

low_none : (cpu : Cpu) (runs : Bool) (low : ℕ) → with_latch cpu low (low_after 0 runs (latch cpu low)) ≡ cpu
low_none cpu true low = let none : latch cpu low + 0 ≡ latch cpu low = omega arith in rw none (latch_stays cpu low)
low_none cpu false low = latch_stays cpu low

counted_none : (cpu : Cpu) → counted_on 0 cpu ≡ cpu
unfolding counted_on
counted_none cpu =
    rw (
      low_none cpu (flag cpu tcon tr0) tl0,
      low_none cpu (flag cpu tcon tr1) tl1,
      low_none cpu (flag cpu t2con tr2) tl2,
    ) refl

-- bytes of a list that are replaced once more
replaced : (rs : List ℕ) (i j k a b c d e f : ℕ) → i ≢ j → i ≢ k → j ≢ k
    → slice_set (slice_set (slice_set (slice_set (slice_set (slice_set rs i a) j b) k c) i d) j e) k f
    ≡ slice_set (slice_set (slice_set rs i d) j e) k f
replaced rs i j k a b c d e f ij ik jk =
    let one = slice_set rs i a in
    let next = slice_set (slice_set rs i d) j b in
    rw (
      ← set_comm (slice_set one j b) i k d c ik,
      ← set_comm one i j d b ij,
      set-set rs i a d,
      ← set_comm next j k e c jk,
      set-set (slice_set rs i d) j b e,
      set-set (slice_set (slice_set rs i d) j e) k c f,
    ) refl

overwritten : (cpu : Cpu) (a b c d e f : ℕ) → third (third cpu a b c) d e f ≡ third cpu d e f
unfolding with_latch has_register
overwritten cpu a b c d e f =
    ap (λ (rs : List ℕ). record cpu { regs = rs })
    (replaced cpu.regs 10 11 76 a b c d e f (λ h. cc h) (λ h. cc h) (λ h. cc h))

-- they count on
pub counting_lasts : (n : ℕ) (cpu : Cpu) (ext : Pins) (p : Periph) → AreCounting cpu ext p
    → AreCounting (counted_on n cpu) ext p
counting_lasts n cpu ext p h =
    same_counting (looked_same cpu (counted_on n cpu) (looked_kept (counted_writes n cpu))) ext p h

-- after some of these cycles
module _ (k : ℕ) (cpu : Cpu) (size : length cpu.regs ≡ 128) where
  abbrev now : Cpu
  now = counted_on k cpu

  low_now : (control bit low : ℕ) → latch now control ≡ latch cpu control
      → latch now low ≡ low_after k (flag cpu control bit) (latch cpu low)
      → low_after 1 (flag now control bit) (latch now low) ≡ low_after (k + 1) (flag cpu control bit) (latch cpu low)
  unfolding flag
  low_now control bit low same l = rw (same, l) (low_more k (flag cpu control bit) (latch cpu low))

  -- the three low bytes after one more
  lows_now : (low0_after 1 now ≡ low0_after (k + 1) cpu) × (low1_after 1 now ≡ low1_after (k + 1) cpu)
      × (low2_after 1 now ≡ low2_after (k + 1) cpu)
  unfolding counted_on
  lows_now =
      let v = lows_written cpu (low0_after k cpu) (low1_after k cpu) (low2_after k cpu) size in
      let w = third_written cpu (low0_after k cpu) (low1_after k cpu) (low2_after k cpu) in (
        low_now tcon tr0 tl0 (latch_kept tcon refl w) v.0,
        low_now tcon tr1 tl1 (latch_kept tcon refl w) v.1,
        low_now t2con tr2 tl2 (latch_kept t2con refl w) v.2,
      )

  counted_more : counted_on 1 now ≡ counted_on (k + 1) cpu
  unfolding counted_on
  counted_more =
      rw (lows_now.0, lows_now.1, lows_now.2)
      (overwritten cpu (low0_after k cpu) (low1_after k cpu) (low2_after k cpu) (low0_after (k + 1) cpu)
      (low1_after (k + 1) cpu) (low2_after (k + 1) cpu))

  still_count : (n : ℕ) (ext : Pins) (p : Periph) → k < n → OnlyCount n cpu ext p → OnlyCount 1 now ext p
  still_count n ext p less h = record {
    counting = counting_lasts k cpu ext p h.counting;
    low0 = rw lows_now.0 (low_less k n (flag cpu tcon tr0) (latch cpu tl0) less h.low0);
    low1 = rw lows_now.1 (low_less k n (flag cpu tcon tr1) (latch cpu tl1) less h.low1);
    low2 = rw lows_now.2 (low_less k n (flag cpu t2con tr2) (latch cpu tl2) less h.low2);
    line = line_kept (counted_writes k cpu) p ∙ h.line;
  }

pub devices_count_on : DevicesCountOn
devices_count_on n cpu ext p size h = record {
  start = counted_none cpu;
  next = λ k less.
      tick_counts (counted_on k cpu) ext p (still_count k cpu size n ext p less h)
      ∙ ap (λ (c : Cpu). only c p) (counted_more k cpu size);
}

-- the timers after timer 0, and after timer 1
module _ (levels : Levels) (cpu : Cpu) (size : length cpu.regs ≡ 128) where
  pub kept0 : timer0_is_plain cpu ≡ true → timer0_is_plain (timer0_ticked levels cpu) ≡ true
  kept0 h = plain0 (clocks_same (wider refl (timer0_writes levels cpu)) size) ∙ h

  pub kept1 : timer1_is_plain cpu ≡ true → timer1_is_plain (timer0_ticked levels cpu) ≡ true
  kept1 h = plain1 (clocks_same (wider refl (timer0_writes levels cpu)) size) ∙ h

  pub kept2 : timer2_is_plain cpu ≡ true → timer2_is_plain (timers_ticked levels cpu).cpu ≡ true
  kept2 h = plain2 (clocks_same (wider refl (both_write levels cpu)) size) ∙ h

  pub no_th0 : timer0_is_plain cpu ≡ true
      → timer1_ticked levels (timer0_ticked levels cpu) ≡ timers_ticked levels cpu
  no_th0 h = rw (th0_stays (timer0_ticked levels cpu) (not_split _ (kept0 h))) refl

-- a tick in which the devices count, by its clocks
abbrev same_levels : Periph → Levels
same_levels p = record { before = p.levels; present = p.levels }

-- it is the clocks, and they count on
pub counting_tick : (cpu : Cpu) (ext : Pins) (p : Periph) → length cpu.regs ≡ 128 → AreCounting cpu ext p
    → with_levels p.levels (clocks_ticked (same_levels p) cpu p) ≡ ticked cpu ext [] p
unfolding ticked
counting_tick cpu ext p size h =
    let next = clocks_ticked (same_levels p) cpu p in
    let c = same_counting (clocks_same (clocks_write (same_levels p) cpu p) size) ext p h in
    sym (requests_stay (same_levels p) next (ap (λ l. none_asks l (latch next.cpu tcon)) (sym c.levels) ∙ c.requests))
    ∙ ap (λ (l : List ℕ). inputs_ticked (record { before = p.levels; present = l }) []
    (clocks_ticked (record { before = p.levels; present = l }) cpu p)) (sym h.levels)

pub counts_on : (cpu : Cpu) (ext : Pins) (p : Periph) → length cpu.regs ≡ 128 → AreCounting cpu ext p
    → (t : Ticked) → t ≡ with_levels p.levels (clocks_ticked (same_levels p) cpu p) → AreCounting t.cpu ext t.periph
counts_on cpu ext p size h t is =
    let c = same_counting (clocks_same (clocks_write (same_levels p) cpu p) size) ext p h in
    subst (λ (r : Ticked). AreCounting r.cpu ext r.periph) (sym is) (record {
      timer0 = c.timer0;
      timer1 = c.timer1;
      timer2 = c.timer2;
      levels = c.levels;
      requests = c.requests;
    })

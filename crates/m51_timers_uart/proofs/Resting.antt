-- Where no timer runs and no byte is on its way, the clocks change nothing; where the devices rest, a machine cycle in
-- which no frame arrives changes nothing, and they rest on while the registers that show it stay.
use Rattle.std.proofs.Common.{◌≡◌, ℕ, ◌-◌, Bool, true, false, cond, List, [], None, refl, sym, ap, ◌∙◌, slice_index}
use Rattle.std.proofs.Common.{arith, slice_set}
use Rattle.std.proofs.lemmas.Bool.{eqb-true}
use Rattle.std.proofs.lemmas.List.{set-get_or}
use Rattle.std.specs.Int.{bit_at}
use Rattle.std.specs.Prelude.{not, ◌==◌, if◌then◌else◌}
use Rattle.m51_flat.specs.declared.state.Cpu.{Cpu}
use Rattle.m51_flat.specs.declared.state.Pins.{Pins}
use Rattle.m51_flat.specs.Flags.{exen2, ie0, ie1, it0, it1, tr0, tr1, tr2}
use Rattle.m51_flat.specs.Sfr.{flag, found, has_register, latch, p0, p1, p2, p3, t2con, tcon, tmod}
use Rattle.m51_flat.specs.Sfr.{with_bit, with_flag, with_latch}
use Rattle.m51_timers_uart.specs.declared.levels.Input.{Input}
use Rattle.m51_timers_uart.specs.declared.levels.Input.TheVariants.{Int0, Int1}
use Rattle.m51_timers_uart.specs.declared.levels.Levels.{Levels}
use Rattle.m51_timers_uart.specs.declared.periph.Periph.{Periph}
use Rattle.m51_timers_uart.specs.External.{requested}
use Rattle.m51_timers_uart.specs.Levels.{falls, is_high, levels_of}
use Rattle.m51_timers_uart.specs.Resting.{AreResting, looked_at, request_rests}
use Rattle.m51_timers_uart.specs.Sending.{Ticked, sending_ticked}
use Rattle.m51_timers_uart.specs.Tick.{clocks_rest, clocks_ticked, levels_met, ticked}
use Rattle.m51_timers_uart.specs.Timer2.{t2ex_heeded, timer2_rests}
use Rattle.m51_timers_uart.specs.Timer2.{times2}
use Rattle.m51_timers_uart.specs.Timers.{Timed, counts0, counts1}
use Rattle.m51_timers_uart.specs.Timers.{is_split, mode0, th0_ticked, timer0_ticked, timer1_ticked}
use Rattle.m51_timers_uart.specs.Timers.{timers_rest}

pub counts0_not : (levels : Levels) (cpu : Cpu) → flag cpu tcon tr0 ≡ false → counts0 levels cpu ≡ false
unfolding counts0
counts0_not levels cpu h = rw h refl

pub counts1_not : (levels : Levels) (cpu : Cpu) → flag cpu tcon tr1 ≡ false → is_split (mode0 cpu) ≡ false
    → counts1 levels cpu ≡ false
unfolding counts1
counts1_not levels cpu h k = grind (arith, h, k)

pub timer0_stays : (levels : Levels) (cpu : Cpu) → counts0 levels cpu ≡ false → timer0_ticked levels cpu ≡ cpu
unfolding timer0_ticked
timer0_stays levels cpu h = rw h refl

pub th0_stays : (cpu : Cpu) → is_split (mode0 cpu) ≡ false → ◌≡◌ {A = Cpu} (th0_ticked cpu) cpu
unfolding th0_ticked
th0_stays cpu h = rw h refl

pub timer1_stays : (levels : Levels) (cpu : Cpu) → counts1 levels cpu ≡ false
    → ◌≡◌ {A = Timed} (timer1_ticked levels cpu) (record { cpu = cpu; overflow = false })
unfolding timer1_ticked
timer1_stays levels cpu h = rw h refl

pub times_none : (levels : Levels) (cpu : Cpu) → flag cpu t2con tr2 ≡ false → times2 levels cpu ≡ 0
unfolding times2
times_none levels cpu h = rw h refl

pub t2ex_stays : (levels : Levels) (cpu : Cpu) → flag cpu t2con exen2 ≡ false → t2ex_heeded levels cpu ≡ cpu
unfolding t2ex_heeded
t2ex_stays levels cpu h = rw h refl

pub sending_stays : (one : Bool) (two : ℕ) (cpu : Cpu) (p : Periph) → (p.left == 0) ≡ true
    → ◌≡◌ {A = Ticked} (sending_ticked one two cpu p) (record { cpu = cpu; periph = p; sent = None })
unfolding sending_ticked
sending_stays one two cpu p h = rw h refl

-- what the devices at rest do not do
record Rest (cpu : Cpu) (p : Periph) : Type 0 where
  runs0 : flag cpu tcon tr0 ≡ false
  runs1 : flag cpu tcon tr1 ≡ false
  split : is_split (mode0 cpu) ≡ false
  runs2 : flag cpu t2con tr2 ≡ false
  heeds : flag cpu t2con exen2 ≡ false
  line : (p.left == 0) ≡ true

rest_of : (cpu : Cpu) (p : Periph) → clocks_rest cpu p ≡ true → Rest cpu p
unfolding clocks_rest timers_rest timer2_rests
rest_of cpu p h = record {
  runs0 = grind (arith, h);
  runs1 = grind (arith, h);
  split = grind (arith, h);
  runs2 = grind (arith, h);
  heeds = grind (arith, h);
  line = grind (arith, h);
}

pub clocks_stay : (levels : Levels) (cpu : Cpu) (p : Periph) → clocks_rest cpu p ≡ true
    → clocks_ticked levels cpu p ≡ record { cpu = cpu; periph = p; sent = None }
clocks_stay levels cpu p h =
    let r = rest_of cpu p h in
    rw (
      timer0_stays levels cpu (counts0_not levels cpu r.runs0),
      th0_stays cpu r.split,
      timer1_stays levels cpu (counts1_not levels cpu r.runs1 r.split),
      times_none levels cpu r.runs2,
      t2ex_stays levels cpu r.heeds,
      sending_stays false 0 cpu p r.line,
    ) refl

-- a register that is stored as it is
same_if : (t : Bool) (cpu : Cpu) (i : ℕ)
    → ◌≡◌ {A = Cpu} (cond t (record cpu { regs = slice_set cpu.regs i (cond t (slice_index cpu.regs i) 0) }) cpu) cpu
same_if true cpu i = ap (λ (rs : List ℕ). record cpu { regs = rs }) (set-get_or cpu.regs i 0)
same_if false cpu i = refl

pub latch_stays : (cpu : Cpu) (a : ℕ) → with_latch cpu a (latch cpu a) ≡ cpu
unfolding with_latch latch
latch_stays cpu a = same_if (has_register a) cpu (a - 128)

-- a bit that is written as it is
pub flag_stays : (cpu : Cpu) (a k : ℕ) (b : Bool) → with_bit (latch cpu a) k b ≡ latch cpu a → with_flag cpu a k b ≡ cpu
unfolding with_flag
flag_stays cpu a k b h = ap (with_latch cpu a) h ∙ latch_stays cpu a

request_by : (t f keeps : Bool) (cpu set kept : Cpu) → (if t then not f else keeps) ≡ true
    → (keeps ≡ true → kept ≡ cpu) → (if t then (if f then set else cpu) else kept) ≡ cpu
request_by true true keeps cpu set kept h k = cc h
request_by true false keeps cpu set kept h k = refl
request_by false f keeps cpu set kept h k = k h

-- the request of a pin is as it is to be
pub request_stays : (levels : Levels) (pin : Input) (it ask : ℕ) (cpu : Cpu)
    → request_rests levels pin it ask (latch cpu tcon) ≡ true → requested levels pin it ask cpu ≡ cpu
unfolding request_rests requested flag
request_stays levels pin it ask cpu h =
    let byte = latch cpu tcon in
    let low = not (is_high levels pin) in
    request_by (bit_at byte it == 1) (falls levels pin) (with_bit byte ask low == byte) cpu
    (with_flag cpu tcon ask true) (with_flag cpu tcon ask low) h
    (λ e. flag_stays cpu tcon ask low (eqb-true (with_bit byte ask low) byte e))

-- a cycle in which no frame arrives changes nothing where the devices rest
pub tick_stays : (cpu : Cpu) (ext : Pins) (p : Periph) → AreResting cpu ext p
    → ticked cpu ext [] p ≡ record { cpu = cpu; periph = p; sent = None }
unfolding ticked
tick_stays cpu ext p h =
    let levels = levels_met p cpu ext in
    rw (
      clocks_stay levels cpu p h.clocks,
      request_stays levels Int0 it0 ie0 cpu h.int0,
      request_stays levels Int1 it1 ie1 cpu h.int1,
      h.levels,
    ) refl

-- all registers that show it are the same
pub all_same : (one other : Cpu) → latch one p0 ≡ latch other p0 → latch one p1 ≡ latch other p1
    → latch one p2 ≡ latch other p2 → latch one p3 ≡ latch other p3 → latch one tcon ≡ latch other tcon
    → latch one tmod ≡ latch other tmod → latch one t2con ≡ latch other t2con → looked_at one ≡ looked_at other
all_same one other a b c d e f g = cc

-- with these, the devices rest as they did
module _ (one other : Cpu) (h : looked_at one ≡ looked_at other) where
  pub at : (k : ℕ) → slice_index (looked_at one) k ≡ slice_index (looked_at other) k
  at k = ap (λ (l : List ℕ). slice_index l k) h

  clocks_same : (p : Periph) → clocks_rest one p ≡ clocks_rest other p
  unfolding clocks_rest timers_rest timer2_rests flag
  clocks_same p =
      let timers : latch one tcon ≡ latch other tcon = at 4 in
      let modes : latch one tmod ≡ latch other tmod = at 5 in
      let timer2 : latch one t2con ≡ latch other t2con = at 6 in
      rw (timers, modes, timer2) refl

  pub levels_same : (ext : Pins) → levels_of one ext ≡ levels_of other ext
  unfolding levels_of found
  levels_same ext =
      let a : latch one p0 ≡ latch other p0 = at 0 in
      let b : latch one p1 ≡ latch other p1 = at 1 in
      let c : latch one p2 ≡ latch other p2 = at 2 in
      let d : latch one p3 ≡ latch other p3 = at 3 in
      rw (a, b, c, d) refl

  asks_same : (pin : Input) (it ask : ℕ) (ext : Pins) (p : Periph)
      → request_rests (levels_met p one ext) pin it ask (latch one tcon) ≡ true
      → request_rests (levels_met p other ext) pin it ask (latch other tcon) ≡ true
  asks_same pin it ask ext p r =
      let timers : latch one tcon ≡ latch other tcon = at 4 in rw (← levels_same ext, ← timers) r

  pub still_rest : (ext : Pins) (p : Periph) → AreResting one ext p → AreResting other ext p
  still_rest ext p rest = record {
    clocks = sym (clocks_same p) ∙ rest.clocks;
    levels = sym (levels_same ext) ∙ rest.levels;
    int0 = asks_same Int0 it0 ie0 ext p rest.int0;
    int1 = asks_same Int1 it1 ie1 ext p rest.int1;
  }

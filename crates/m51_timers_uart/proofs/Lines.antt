-- Sending over many machine cycles: its numbers stay small, and how far apart bytes are.
use Rattle.std.proofs.Common.{ℕ, zero, suc, ◌+◌, ◌≤◌, Bool, true, false, cond, List, arith, lit≤, lit<, ◌≡◌, ◌≢◌, ◌-◌}
use Rattle.std.proofs.Common.{[], ◌∷◌, length, refl, sym, subst, zero-add}
use Rattle.std.specs.Prelude.{◌==◌, nat_le, Option, Some, None, IfSome, IsSome}
use Rattle.std.proofs.lemmas.Bool.{cond_both, eqb-true, eqb-false}
use Rattle.std.proofs.lemmas.Bool.Decides.{nat_tests}
use Rattle.std.proofs.Math.Nat.{le_trans}
use Rattle.std.proofs.lemmas.Grind.{common_steps}
use Rattle.m51_alu.specs.Arithmetic.{bit_of}
use Rattle.m51_flat.specs.declared.state.Cpu.{Cpu}
use Rattle.m51_flat.specs.declared.state.Pins.{Pins}
use Rattle.m51_flat.specs.Sfr.{flag, scon, th2, tl2}
use Rattle.m51_flat.specs.Flags.{sm0, sm1, tb8}
use Rattle.m51_timers_uart.specs.declared.levels.Input.TheVariants.{T2}
use Rattle.m51_timers_uart.specs.declared.levels.Levels.{Levels}
use Rattle.m51_timers_uart.specs.declared.periph.Periph.{Periph}
use Rattle.m51_timers_uart.specs.declared.receiving.Frame.{Frame}
use Rattle.m51_timers_uart.specs.declared.periph.Sent.{Sent}
use Rattle.m51_timers_uart.specs.Levels.{falls}
use Rattle.m51_timers_uart.specs.LineLaws.{IsSerialBounded, LineIsBounded, AreQuiet, OneByteIsSent, Cycle, HasNinth}
use Rattle.m51_timers_uart.specs.LineLaws.{NinthBitsAreApart, OneBitPasses, PassesOneBit, after_cycles, cycled}
use Rattle.m51_timers_uart.specs.LineLaws.{written_to}
use Rattle.m51_timers_uart.specs.Timer2.{Overflowed, counted_times, once_more, reload2, times2}
use Rattle.m51_timers_uart.specs.Timers.{bytes_at}
use Rattle.m51_timers_uart.specs.Counting.{sixteen_counted}
use Rattle.m51_timers_uart.specs.Sending.{Ticked, begun, bit_time, clocked, growth, moved, sending_ticked, serial_mode}
use Rattle.m51_timers_uart.specs.Sending.{bit_times, sent_at_end, has_ninth}
use Rattle.m51_timers_uart.specs.Tick.{ticked}

-- a bit is 0 or 1
pub bit_most : (b : Bool) → bit_of b ≤ 1
bit_most true = lit≤ tt
bit_most false = lit≤ tt

more_most : (o : Overflowed) (n : ℕ) → o.overflows ≤ n → (once_more o).overflows ≤ suc n
unfolding once_more
more_most o n h =
    let one = bit_most (sixteen_counted (reload2 o.cpu) (bytes_at th2 tl2 o.cpu)).overflow in omega (arith, h, one)

counts_most : (n : ℕ) (cpu : Cpu) → (counted_times n cpu).overflows ≤ n
counts_most zero cpu = lit≤ tt
counts_most (suc n) cpu = more_most (counted_times n cpu) n (counts_most n cpu)

times_most : (levels : Levels) (cpu : Cpu) → times2 levels cpu ≤ 6
unfolding times2
times_most levels cpu = grind (arith, bit_most (falls levels T2))

growth_most : (cpu : Cpu) (mode : ℕ) (one : Bool) (two : ℕ) → two ≤ 6 → growth cpu mode one two ≤ 12
unfolding growth
growth_most cpu mode one two h = grind (arith, h, bit_most one)

time_bounds : (cpu : Cpu) (mode : ℕ) → (16 ≤ bit_time cpu mode) × (bit_time cpu mode ≤ 64)
unfolding bit_time
time_bounds cpu mode = (grind arith, grind arith)

clock_bounds : (grown takes : ℕ) (p : Periph) → IsSerialBounded p → grown ≤ 12 → 16 ≤ takes → takes ≤ 64
    → IsSerialBounded (clocked grown takes p)
unfolding clocked
clock_bounds grown takes p b g l m =
    let left = b.left in
    let count = b.count in
    cond_both (nat_le takes (p.count + grown)) _ _ IsSerialBounded
    (λ e. record { left = omega (arith, left); mode = b.mode; count = omega (arith, count, g, l) })
    (λ e. record { left = b.left; mode = b.mode; count = grind (arith, nat_tests, m, e) })

move_bounds : (cpu : Cpu) (one : Bool) (two : ℕ) (p : Periph) → two ≤ 6 → IsSerialBounded p
    → IsSerialBounded (moved cpu one two p)
unfolding moved
move_bounds cpu one two p h b =
    let left = b.left in
    let time = time_bounds cpu p.mode in
    cond_both (p.mode == 0) _ _ IsSerialBounded
    (λ e. record { left = omega (arith, left); mode = b.mode; count = b.count })
    (λ e. clock_bounds _ _ p b (growth_most cpu p.mode one two h) time.0 time.1)

-- what is kept besides the registers after a tick
either_bounds : (t : Bool) (x y : Ticked) → IsSerialBounded x.periph → IsSerialBounded y.periph
    → IsSerialBounded (cond t x y).periph
either_bounds t x y p q = cond_both t x y (λ (r : Ticked). IsSerialBounded r.periph) (λ e. p) (λ e. q)

line_bounds : (one : Bool) (two : ℕ) (cpu : Cpu) (p : Periph) → two ≤ 6 → IsSerialBounded p
    → IsSerialBounded (sending_ticked one two cpu p).periph
unfolding sending_ticked
line_bounds one two cpu p h b =
    let m = move_bounds cpu one two p h b in
    either_bounds (p.left == 0) _ _ b (either_bounds ((moved cpu one two p).left == 0) _ _ m m)

mode_most : (cpu : Cpu) → serial_mode cpu ≤ 3
unfolding serial_mode
mode_most cpu = let a = bit_most (flag cpu scon sm0) in let b = bit_most (flag cpu scon sm1) in omega (arith, a, b)

begin_bounds : (cpu : Cpu) (byte : ℕ) (p : Periph) → IsSerialBounded (begun cpu byte p)
unfolding begun
begin_bounds cpu byte p = record { left = grind arith; mode = mode_most cpu; count = lit< tt }

six : (levels : Levels) (cpu : Cpu) → (counted_times (times2 levels cpu) cpu).overflows ≤ 6
six levels cpu = le_trans (counts_most (times2 levels cpu) cpu) (times_most levels cpu)

tick_bounds : (cpu : Cpu) (ext : Pins) (fs : List Frame) (p : Periph) → IsSerialBounded p
    → IsSerialBounded (ticked cpu ext fs p).periph
unfolding ticked
tick_bounds cpu ext fs p b =
    let q = line_bounds _ _ _ p (six _ _) b in
    record { left = q.left; mode = q.mode; count = q.count }

pub line_is_bounded : LineIsBounded
line_is_bounded = record {
  reset = λ ext. record { left = lit≤ tt; mode = lit≤ tt; count = lit< tt };
  begin = begin_bounds;
  tick = tick_bounds;
}

-- what a tick does to the byte on its way
record Moves (p q : Periph) : Type 0 where
  least : p.left ≤ q.left + 1
  most : q.left ≤ p.left
  mode : q.mode ≡ p.mode
  byte : q.byte ≡ p.byte
  ninth : q.ninth ≡ p.ninth

-- one bit time passes, or none
module _ (p : Periph) where
  one_passes : (n : ℕ) → Moves p (record p { left = p.left - 1; count = n })
  one_passes n = record { least = omega arith; most = omega arith; mode = refl; byte = refl; ninth = refl }

  none_passes : (n : ℕ) → Moves p (record p { count = n })
  none_passes n = record { least = omega arith; most = omega arith; mode = refl; byte = refl; ninth = refl }

  moves : (cpu : Cpu) (one : Bool) (two : ℕ) → Moves p (moved cpu one two p)
  unfolding moved clocked
  moves cpu one two =
      cond_both (p.mode == 0) _ _ (Moves p) (λ e. one_passes p.count)
      (λ e. cond_both (nat_le (bit_time cpu p.mode) (p.count + growth cpu p.mode one two)) _ _ (Moves p)
      (λ e. one_passes _) (λ e. none_passes _))

-- a byte on its way that passed its last bit time is sent
end_passes : (cpu : Cpu) (p q : Periph) → p.left ≢ 0 → Moves p q → PassesOneBit p (sent_at_end cpu q)
end_passes cpu p q ne m =
    let how : (q.left == 0) ≡ true → (p.left ≡ 1) × (q.left ≡ 0) =
    λ e. let none = eqb-true q.left 0 e in let l = m.least in (omega (arith, ne, l, none), none) in
    cond_both (q.left == 0) _ _ (PassesOneBit p)
    (λ e. record {
      least = m.least;
      most = m.most;
      mode = m.mode;
      byte = m.byte;
      ninth = m.ninth;
      sent = (rw (m.byte, m.ninth) refl, (how e).0, (how e).1);
    })
    (λ e. record { least = m.least; most = m.most; mode = m.mode; byte = m.byte; ninth = m.ninth; sent = tt })

line_passes : (one : Bool) (two : ℕ) (cpu : Cpu) (p : Periph) → PassesOneBit p (sending_ticked one two cpu p)
unfolding sending_ticked
line_passes one two cpu p =
    cond_both (p.left == 0) _ _ (PassesOneBit p)
    (λ e. record { least = omega arith; most = omega arith; mode = refl; byte = refl; ninth = refl; sent = tt })
    (λ e. end_passes cpu p (moved cpu one two p) (eqb-false p.left 0 e) (moves p cpu one two))

pub one_bit_passes : OneBitPasses
unfolding ticked
one_bit_passes cpu ext fs p =
    let t = line_passes _ _ _ p in
    record { least = t.least; most = t.most; mode = t.mode; byte = t.byte; ninth = t.ninth; sent = t.sent }

-- while a byte with a ninth bit is on its way, its bit times left and the cycles since another was sent are together
-- ten or more
abbrev AreTen : ℕ → Periph → Type 0
AreTen k p = IsSome p.ninth → p.left ≢ 0 → 10 ≤ p.left + k

ten : (m : ℕ) → has_ninth m ≡ true → bit_times m ≡ 10
ten m h = grind (arith, common_steps, h)

-- a byte with a ninth bit takes ten bit times
pub ninth_ten : (m : ℕ) (b : Bool) → IsSome (cond (has_ninth m) (Some b) None) → bit_times m ≡ 10
ninth_ten m b =
    cond_both (has_ninth m) (Some b) None (λ o. IsSome o → bit_times m ≡ 10) (λ e i. ten m e) (λ e i. absurd (cc i))

begin_ten : (k : ℕ) (cpu : Cpu) (byte : ℕ) (p : Periph) → AreTen k (begun cpu byte p)
unfolding begun
begin_ten k cpu byte p i ne =
    let e = ninth_ten (serial_mode cpu) (flag cpu scon tb8) i in omega (arith, e)

write_ten : (k : ℕ) (cpu : Cpu) (o : Option ℕ) (p : Periph) → AreTen k p → AreTen k (written_to cpu o p)
write_ten k cpu None p g = g
write_ten k cpu (Some byte) p g = begin_ten k cpu byte p

cycle_ten : (k : ℕ) (c : Cycle) (p : Periph) → AreTen k p → AreTen (k + 1) (cycled c p).periph
cycle_ten k c p g i ne =
    let q = written_to c.cpu c.written p in
    let t = one_bit_passes c.cpu c.ext c.frames q in
    let least = t.least in
    let most = t.most in
    let h : 10 ≤ q.left + k =
    write_ten k c.cpu c.written p g (subst (λ o. IsSome o) t.ninth i) (λ e. ne (omega (arith, e, most))) in
    omega (arith, h, least)

cycles_ten : (k n : ℕ) (cs : List Cycle) (p : Periph) → n ≡ k + length cs → AreTen k p → AreTen n (after_cycles cs p)
cycles_ten k n [] p e g = let same : k ≡ n = omega (arith, e) in subst (λ m. AreTen m p) same g
cycles_ten k n (c ∷ cs) p e g =
    cycles_ten (k + 1) n cs (cycled c p).periph (omega (arith, e)) (cycle_ten k c p g)

-- the facts of a byte that was sent
sent_last : (o : Option Sent) (p q : Periph) → IsSome o
    → IfSome o (λ s. (s ≡ record { byte = p.byte; ninth = p.ninth }) × (p.left ≡ 1) × (q.left ≡ 0)) → q.left ≡ 0
sent_last (Some s) p q h i = i.2
sent_last None p q h i = absurd (cc h)

sent_ninth : (o : Option Sent) (p q : Periph) → HasNinth o
    → IfSome o (λ s. (s ≡ record { byte = p.byte; ninth = p.ninth }) × (p.left ≡ 1) × (q.left ≡ 0))
    → IsSome p.ninth × (p.left ≡ 1)
sent_ninth (Some s) p q h i = (subst (λ (s : Sent). IsSome s.ninth) i.0 h.1, i.1)
sent_ninth None p q h i = let n = h.0 in absurd (cc n)

pub ninth_bits_are_apart : NinthBitsAreApart
ninth_bits_are_apart first last cs p began sent_at_end =
    let start = (cycled first p).periph in
    let one = one_bit_passes first.cpu first.ext first.frames (written_to first.cpu first.written p) in
    let none : start.left ≡ 0 =
    sent_last (cycled first p).sent (written_to first.cpu first.written p) start began one.sent in
    let q = written_to last.cpu last.written (after_cycles cs start) in
    let two = one_bit_passes last.cpu last.ext last.frames q in
    let facts = sent_ninth (cycled last (after_cycles cs start)).sent q (cycled last (after_cycles cs start)).periph
    sent_at_end two.sent in
    let run = cycles_ten 0 (length cs) cs start (sym (zero-add (length cs))) (λ i ne. absurd (ne none)) in
    let g = write_ten (length cs) last.cpu last.written (after_cycles cs start) run in
    let h : 10 ≤ q.left + length cs = g facts.0 (λ e. omega (arith, facts.1, e)) in omega (arith, facts.1, h)

-- where no byte is on its way and none begins, none is sent
quiet_write : (cpu : Cpu) (o : Option ℕ) (p : Periph) → o ≡ None → p.left ≡ 0 → (written_to cpu o p).left ≡ 0
quiet_write cpu None p e h = h
quiet_write cpu (Some byte) p e h = absurd (cc e)

quiet_cycle : (c : Cycle) (p : Periph) → c.written ≡ None → p.left ≡ 0 → (cycled c p).periph.left ≡ 0
quiet_cycle c p e h =
    let q = written_to c.cpu c.written p in
    let t = one_bit_passes c.cpu c.ext c.frames q in
    let most = t.most in let none = quiet_write c.cpu c.written p e h in omega (arith, most, none)

quiet_cycles : (cs : List Cycle) (p : Periph) → AreQuiet cs → p.left ≡ 0 → (after_cycles cs p).left ≡ 0
quiet_cycles [] p q h = h
quiet_cycles (c ∷ cs) p q h = quiet_cycles cs (cycled c p).periph q.1 (quiet_cycle c p q.0 h)

sent_none : (o : Option Sent) (p q : Periph) → p.left ≡ 0
    → IfSome o (λ s. (s ≡ record { byte = p.byte; ninth = p.ninth }) × (p.left ≡ 1) × (q.left ≡ 0)) → o ≡ None
sent_none (Some s) p q h i = absurd (omega (arith, i.1, h))
sent_none None p q h i = refl

pub one_byte_is_sent : OneByteIsSent
one_byte_is_sent first last cs p quiet still began =
    let start = (cycled first p).periph in
    let one = one_bit_passes first.cpu first.ext first.frames (written_to first.cpu first.written p) in
    let none : start.left ≡ 0 =
    sent_last (cycled first p).sent (written_to first.cpu first.written p) start began one.sent in
    let q = written_to last.cpu last.written (after_cycles cs start) in
    let two = one_bit_passes last.cpu last.ext last.frames q in
    let left = quiet_write last.cpu last.written (after_cycles cs start) still (quiet_cycles cs start quiet none) in
    sent_none (cycled last (after_cycles cs start)).sent q (cycled last (after_cycles cs start)).periph left two.sent

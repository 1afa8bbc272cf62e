-- A byte of mode 1 over the overflows of timer 1.
use Rattle.std.proofs.Common.{◌≡◌, ◌≢◌, ℕ, zero, suc, ◌+◌, ◌-◌, ◌*◌, ◌<◌, ◌≤◌, Bool, true, List, [], ◌∷◌, refl}
use Rattle.std.proofs.Common.{ap}
use Rattle.std.proofs.Common.{subst, arith}
use Rattle.std.specs.Prelude.{Some, None, nat_le}
use Rattle.std.proofs.Math.Nat.{suc-mul, zero-mul}
use Rattle.std.proofs.lemmas.Bool.{cond_both, eq-eqb, ne_eqb}
use Rattle.std.proofs.lemmas.Bool.Decides.{nat_tests}
use Rattle.m51_alu.specs.Arithmetic.{bit_of}
use Rattle.m51_flat.specs.declared.state.Cpu.{Cpu}
use Rattle.m51_flat.specs.Flags.{ti}
use Rattle.m51_flat.specs.Sfr.{scon, with_flag}
use Rattle.m51_timers_uart.specs.declared.periph.Periph.{Periph}
use Rattle.m51_timers_uart.specs.Sending.{Ticked, begun, bit_time, clocked, sent_at_end, growth}
use Rattle.m51_timers_uart.specs.Sending.{moved}
use Rattle.m51_timers_uart.specs.Sending.{sending_ticked, serial_mode}
use Rattle.m51_timers_uart.proofs.Lines.{bit_most}
use Rattle.m51_timers_uart.specs.RateLaws.{AreRatedBy, IsRatedBy, LineTick, ModeOneIsSentInTime, line_after}
use Rattle.m51_timers_uart.specs.RateLaws.{overflows_in, overflows_of_bit, tick_line}

-- a byte of mode 1 on its way, after `passed` overflows: its bit times, at `takes` overflows each, and what is counted
pub record OnItsWay (takes byte passed : ℕ) (p : Periph) : Type 0 where
  pub mode : p.mode ≡ 1
  pub is : p.byte ≡ byte
  pub ninth : p.ninth ≡ None
  pub some : p.left ≢ 0
  pub counted : p.count < takes
  pub rest : p.left * takes + passed ≡ 9 * takes + p.count

in_mode_1 : (twice : Bool) (t : LineTick) (p : Periph) → IsRatedBy twice t → p.mode ≡ 1
    → moved t.cpu t.timer1 t.timer2 p ≡ clocked (bit_of t.timer1) (overflows_of_bit twice) p
unfolding moved growth bit_time
in_mode_1 twice t p rated mode = rw (mode, rated.timer1_rates, rated.smod_is) refl

-- what the clock makes of it: it is still on its way, or no bit time is left
record Clocks (takes byte passed : ℕ) (p : Periph) : Type 0 where
  mode : p.mode ≡ 1
  is : p.byte ≡ byte
  ninth : p.ninth ≡ None
  counted : p.count < takes
  rest : p.left * takes + passed ≡ 9 * takes + p.count

clocks : (takes byte passed b : ℕ) (p : Periph) → b ≤ 1 → OnItsWay takes byte passed p
    → Clocks takes byte (passed + b) (clocked b takes p)
unfolding clocked
clocks takes byte passed b p one w =
    let few = w.counted in
    let rest = w.rest in
    let some : 1 ≤ p.left = let ne = w.some in omega (arith, ne) in
    let sum : p.left * takes ≡ (p.left - 1) * takes + takes = one_less p.left some in
    cond_both (nat_le takes (p.count + b)) _ _ (Clocks takes byte (passed + b))
    (λ e. let le : takes ≤ p.count + b = grind (arith, nat_tests, e) in
    record {
      mode = w.mode;
      is = w.is;
      ninth = w.ninth;
      counted = omega (arith, few, one);
      rest = omega (arith, sum, rest, le);
    })
    (λ e. let lt : p.count + b < takes = grind (arith, nat_tests, e) in
    record { mode = w.mode; is = w.is; ninth = w.ninth; counted = lt; rest = omega (arith, rest) })
  where
    one_less : (n : ℕ) → 1 ≤ n → n * takes ≡ (n - 1) * takes + takes
    one_less zero h = absurd (omega (arith, h))
    one_less (suc n) h = let less : suc n - 1 ≡ n = omega arith in rw less (suc-mul n takes)

-- the tick of a byte that has a bit time left
ticks : (twice : Bool) (t : LineTick) (p : Periph) → IsRatedBy twice t → p.mode ≡ 1 → p.left ≢ 0
    → tick_line t p ≡ sent_at_end t.cpu (clocked (bit_of t.timer1) (overflows_of_bit twice) p)
unfolding sending_ticked
ticks twice t p rated mode ne = rw (ne_eqb p.left 0 ne, in_mode_1 twice t p rated mode) refl

-- as long as overflows are missing a bit time is left
some_left : (takes left count passed : ℕ) → left * takes + passed ≡ 9 * takes + count → passed < 9 * takes → left ≢ 0
some_left takes left count passed h lt e = let sum = rw (e, zero-mul takes) at h in omega (arith, sum, lt)

-- and none when they have come
none_left : (takes left count passed : ℕ) → left * takes + passed ≡ 9 * takes + count → count < takes
    → passed ≡ 9 * takes → left ≡ 0
none_left takes zero count passed h lt e = refl
none_left takes (suc left) count passed h lt e = absurd (omega (arith, suc-mul left takes, h, lt, e))

-- a tick before the last overflow
pub record Goes (takes byte passed : ℕ) (cpu : Cpu) (t : Ticked) : Type 0 where
  pub way : OnItsWay takes byte passed t.periph
  pub sent : t.sent ≡ None
  pub same : t.cpu ≡ cpu

pub step : (twice : Bool) (byte passed : ℕ) (t : LineTick) (p : Periph) → IsRatedBy twice t
    → OnItsWay (overflows_of_bit twice) byte passed p
    → passed + bit_of t.timer1 < 9 * overflows_of_bit twice
    → Goes (overflows_of_bit twice) byte (passed + bit_of t.timer1) t.cpu (tick_line t p)
step twice byte passed t p rated w lt =
    let takes = overflows_of_bit twice in
    let q = clocked (bit_of t.timer1) takes p in
    let c = clocks takes byte passed (bit_of t.timer1) p (bit_most t.timer1) w in
    let some = some_left takes q.left q.count (passed + bit_of t.timer1) c.rest lt in
    rw (ticks twice t p rated w.mode w.some, ne_eqb q.left 0 some) (record {
      way = record {
        mode = c.mode;
        is = c.is;
        ninth = c.ninth;
        some = some;
        counted = c.counted;
        rest = c.rest;
      };
      sent = refl;
      same = refl;
    })

-- the last tick sends the byte and sets TI
pub record Ends (byte : ℕ) (cpu : Cpu) (t : Ticked) : Type 0 where
  pub sent : t.sent ≡ Some (record { byte = byte; ninth = None })
  pub flagged : t.cpu ≡ with_flag cpu scon ti true

pub last : (twice : Bool) (byte passed : ℕ) (t : LineTick) (p : Periph) → IsRatedBy twice t
    → OnItsWay (overflows_of_bit twice) byte passed p
    → passed + bit_of t.timer1 ≡ 9 * overflows_of_bit twice → Ends byte t.cpu (tick_line t p)
last twice byte passed t p rated w e =
    let takes = overflows_of_bit twice in
    let q = clocked (bit_of t.timer1) takes p in
    let c = clocks takes byte passed (bit_of t.timer1) p (bit_most t.timer1) w in
    let none = none_left takes q.left q.count (passed + bit_of t.timer1) c.rest c.counted e in
    rw (ticks twice t p rated w.mode w.some, eq-eqb q.left 0 none)
    (record { sent = rw (c.is, c.ninth) refl; flagged = refl })

-- over the ticks before it
way_after : (twice : Bool) (byte passed : ℕ) (ts : List LineTick) (p : Periph) → AreRatedBy twice ts
    → OnItsWay (overflows_of_bit twice) byte passed p
    → passed + overflows_in ts < 9 * overflows_of_bit twice
    → OnItsWay (overflows_of_bit twice) byte (passed + overflows_in ts) (line_after ts p)
way_after twice byte passed [] p rated w lt =
    subst (λ n. OnItsWay (overflows_of_bit twice) byte n p) (let e : passed ≡ passed + 0 = omega arith in e) w
way_after twice byte passed (t ∷ ts) p rated w lt =
    let one = step twice byte passed t p rated.0 w (omega (arith, lt)) in
    let sum : passed + bit_of t.timer1 + overflows_in ts ≡ passed + (bit_of t.timer1 + overflows_in ts) = omega arith in
    subst (λ n. OnItsWay (overflows_of_bit twice) byte n (line_after ts (tick_line t p).periph)) sum
    (way_after twice byte (passed + bit_of t.timer1) ts (tick_line t p).periph rated.1 one.way (omega (arith, lt)))

-- a byte begins with its nine bit times
pub begins : (twice : Bool) (cpu : Cpu) (byte : ℕ) (p : Periph) → serial_mode cpu ≡ 1
    → OnItsWay (overflows_of_bit twice) byte 0 (begun cpu byte p)
unfolding begun
begins twice cpu byte p e = record {
  mode = e;
  is = refl;
  ninth = rw e refl;
  some = λ z. let nine : 9 ≡ 0 = rw e at z in cc nine;
  counted = grind arith;
  rest = rw e refl;
}

pub sent_in_time : ModeOneIsSentInTime
sent_in_time cpu byte p twice before t mode rated now =
    let start = begun cpu byte p in
    let way : (0 + overflows_in before < 9 * overflows_of_bit twice)
    → OnItsWay (overflows_of_bit twice) byte (0 + overflows_in before) (line_after before start)
    = way_after twice byte 0 before start rated (begins twice cpu byte p mode) in
    record {
      early = λ lt. (step twice byte (0 + overflows_in before) t (line_after before start) now
          (way (omega (arith, lt))) (omega (arith, lt))).sent;
      sent = λ e one. let bit : bit_of t.timer1 ≡ 1 = ap bit_of one in
          (last twice byte (0 + overflows_in before) t (line_after before start) now
          (way (omega (arith, e))) (omega (arith, bit, e))).sent;
    }

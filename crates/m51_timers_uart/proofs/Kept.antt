-- What each part of a tick writes, and what then stays as it was.
use Rattle.std.proofs.Common.{◌≡◌, ℕ, zero, suc, ◌-◌, ◌^◌, ◌≤◌, ◌<◌, Bool, true, false, cond, List, [], ◌∷◌}
use Rattle.std.proofs.Common.{◌++◌, refl, ap, ◌∙◌, subst, arith, length}
use Rattle.std.specs.Prelude.{not, ◌&&◌, ◌||◌, ◌==◌, nat_le, nat_lt, bit_and, bit_or}
use Rattle.std.specs.Int.{bit_at}
use Rattle.std.specs.List.{list_all}
use Rattle.std.proofs.lemmas.Bool.{and_parts, cond_both, eq-eqb}
use Rattle.std.proofs.lemmas.Bool.Decides.{nat_tests}
use Rattle.std.proofs.lemmas.Nat.Bits.{bit_at_and, bit_at_or, same_from_bits}
use Rattle.std.proofs.lemmas.List.{length-set}
use Rattle.m51_alu.specs.Arithmetic.{bit_of}
use Rattle.m51_flat.specs.declared.state.Cpu.{Cpu}
use Rattle.m51_flat.specs.declared.state.Pins.{Pins}
use Rattle.m51_flat.specs.Flags.{exf2, ie0, ie1, it0, it1, rb8, ri, tf0, tf1, tf2, ti}
use Rattle.m51_flat.specs.Sfr.{flag, has_register, is_one_of, latch, with_bit, with_flag, with_latch, tcon, scon, t2con}
use Rattle.m51_flat.specs.Sfr.{th0, tl0, th1, tl1, th2, tl2, rcap2h, rcap2l, sbuf}
use Rattle.m51_flat.proofs.BitLaws.{one_bit_is_replaced}
use Rattle.m51_flat.proofs.RegisterLaws.{apart, other, registers_are_written}
use Rattle.m51_timers_uart.specs.declared.counting.TimerBytes.{TimerBytes}
use Rattle.m51_timers_uart.specs.declared.levels.Input.{Input}
use Rattle.m51_timers_uart.specs.declared.levels.Input.TheVariants.{Int0, Int1}
use Rattle.m51_timers_uart.specs.declared.levels.Levels.{Levels}
use Rattle.m51_timers_uart.specs.declared.periph.Periph.{Periph}
use Rattle.m51_timers_uart.specs.declared.receiving.Frame.{Frame}
use Rattle.m51_timers_uart.specs.External.{requested}
use Rattle.m51_timers_uart.specs.KeptLaws.{KeepsBut, TheRestIsKept, device_registers}
use Rattle.m51_timers_uart.specs.Levels.{falls}
use Rattle.m51_timers_uart.specs.Receiving.{frame_met, received, takes_frame, with_ninth}
use Rattle.m51_timers_uart.specs.Sending.{Ticked, moved, sending_ticked}
use Rattle.m51_timers_uart.specs.Tick.{clocks_ticked, inputs_ticked, levels_met, ticked}
use Rattle.m51_timers_uart.specs.Timer2.{counted_times, exchanged2, once_more, t2ex_heeded, timer2_ticked, times2}
use Rattle.m51_timers_uart.specs.Timers.{Timed, bytes_at, counts0, counts1, flagged, th0_ticked, timer0_ticked}
use Rattle.m51_timers_uart.specs.Timers.{timer1_ticked}
use Rattle.m51_timers_uart.specs.Timers.{timers_ticked, with_bytes}

-- a register, or one bit of it
pub data Place : Type 0 where
  Byte : ℕ → Place
  Bit : ℕ → ℕ → Place

abbrev pub register : Place → ℕ
register (Byte a) = a
register (Bit a k) = a

abbrev pub is_same_place : Place → Place → Bool
is_same_place (Byte a) (Byte b) = a == b
is_same_place (Bit a k) (Bit b j) = a == b && k == j
is_same_place _ _ = false

abbrev pub has : List Place → Place → Bool
has [] p = false
has (q ∷ qs) p = is_same_place p q || has qs p

abbrev pub all : (Place → Bool) → List Place → Bool
all t [] = true
all t (p ∷ ps) = t p && all t ps

each : (t : Place → Bool) (ps : List Place) (p : Place) → all t ps ≡ true → has ps p ≡ true → t p ≡ true
each t [] p h k = cc k
each t (Byte b ∷ ps) (Byte a) h k = grind (arith, nat_tests, each t ps (Byte a))
each t (Bit b j ∷ ps) (Bit a k) h i = grind (arith, nat_tests, each t ps (Bit a k))
each t (Bit b j ∷ ps) (Byte a) h k = grind (arith, each t ps (Byte a))
each t (Byte b ∷ ps) (Bit a j) h k = grind (arith, each t ps (Bit a j))

-- writes at these places and at no other
pub data Writes (ws : List Place) : Cpu → Cpu → Type 0 where
  Nothing : (cpu : Cpu) → Writes ws cpu cpu
  Stored : (a v : ℕ) (cpu : Cpu) → has ws (Byte a) ≡ true → Writes ws cpu (with_latch cpu a v)
  Flagged : (a k : ℕ) (b : Bool) (cpu : Cpu) → has ws (Bit a k) ≡ true → Writes ws cpu (with_flag cpu a k b)
  Then : {x y z : Cpu} → Writes ws x y → Writes ws y z → Writes ws x z

-- at more places
pub wider : {ws vs : List Place} {x y : Cpu} → all (has vs) ws ≡ true → Writes ws x y → Writes vs x y
wider h (Nothing cpu) = Nothing cpu
wider {ws} {vs} h (Stored a v cpu i) = Stored a v cpu (each (has vs) ws (Byte a) h i)
wider {ws} {vs} h (Flagged a k b cpu i) = Flagged a k b cpu (each (has vs) ws (Bit a k) h i)
wider h (Then p q) = Then (wider h p) (wider h q)

-- a register that is written
pub size_kept : (a v : ℕ) (cpu : Cpu) → length (with_latch cpu a v).regs ≡ length cpu.regs
unfolding with_latch
size_kept a v cpu =
    cond_both (has_register a) _ cpu (λ (c : Cpu). length c.regs ≡ length cpu.regs) (λ e. length-set cpu.regs _ _)
    (λ e. refl)

pub latch_other : (b a v : ℕ) (cpu : Cpu) → nat_le 128 a ≡ true → (nat_le 128 b && not (a == b)) ≡ true
    → latch (with_latch cpu b v) a ≡ latch cpu a
unfolding with_latch
latch_other b a v cpu h k =
    cond_both (has_register b) _ cpu (λ (c : Cpu). latch c a ≡ latch cpu a)
    (λ e. other cpu b a v
    (apart b a (grind (arith, nat_tests, k)) (grind (arith, nat_tests, h)) (grind (arith, nat_tests, k)))) (λ e. refl)

-- of the devices, where it is between 128 and 255
abbrev pub is_device : ℕ → Bool
is_device a = is_one_of device_registers a && (nat_le 128 a && nat_lt a 256)

record IsDevice (a : ℕ) : Type 0 where
  there : has_register a ≡ true
  low : 128 ≤ a
  high : a < 256

all_there : (t : ℕ → Bool) (rs : List ℕ) (a : ℕ) → list_all t rs ≡ true → is_one_of rs a ≡ true → t a ≡ true
all_there t [] a h k = cc k
all_there t (b ∷ rs) a h k = grind (arith, nat_tests, all_there t rs a)

device : (a : ℕ) → is_device a ≡ true → IsDevice a
unfolding has_register
device a h =
    let first = and_parts (is_one_of device_registers a) _ h in
    record {
      there = all_there has_register device_registers a refl first.0;
      low = grind (arith, nat_tests, first.1);
      high = grind (arith, nat_tests, first.1);
    }

pub stored : (a v : ℕ) (cpu : Cpu) → is_device a ≡ true → length cpu.regs ≡ 128 → latch (with_latch cpu a v) a ≡ v
stored a v cpu h n =
    let d = device a h in
    rw (registers_are_written cpu a a v n d.there d.low d.high d.low, eq-eqb a a refl) refl

-- what is kept but for these registers
abbrev pub lies : List ℕ → Place → Bool
lies vs p = nat_le 128 (register p) && is_one_of vs (register p)

module _ (vs : List ℕ) where
  itself : (cpu : Cpu) → KeepsBut vs cpu cpu
  itself cpu = record { pc = refl; low = refl; high = refl; held = refl; size = refl; latches = λ a h d. refl }

  latch_keeps : (a v : ℕ) (cpu : Cpu) → (nat_le 128 a && is_one_of vs a) ≡ true → KeepsBut vs cpu (with_latch cpu a v)
  unfolding with_latch
  latch_keeps a v cpu h =
      let t = and_parts (nat_le 128 a) (is_one_of vs a) h in
      let low : 128 ≤ a = grind (arith, nat_tests, t.0) in
      cond_both (has_register a) _ cpu (KeepsBut vs cpu)
      (λ e. record {
        pc = refl;
        low = refl;
        high = refl;
        held = refl;
        size = length-set cpu.regs _ _;
        latches = λ b hb db. other cpu a b v (apart a b low hb (λ e. cc (t.1, db, e)));
      })
      (λ e. itself cpu)

  pub keeps : {ws : List Place} {x y : Cpu} → all (lies vs) ws ≡ true → Writes ws x y → KeepsBut vs x y
  unfolding with_flag
  keeps h (Nothing cpu) = itself cpu
  keeps {ws} h (Stored a v cpu i) = latch_keeps a v cpu (each (lies vs) ws (Byte a) h i)
  keeps {ws} h (Flagged a k b cpu i) = latch_keeps a _ cpu (each (lies vs) ws (Bit a k) h i)
  keeps h (Then p q) =
      let one = keeps h p in
      let two = keeps h q in
      record {
        pc = two.pc ∙ one.pc;
        low = two.low ∙ one.low;
        high = two.high ∙ one.high;
        held = two.held ∙ one.held;
        size = two.size ∙ one.size;
        latches = λ a low d. two.latches a low d ∙ one.latches a low d;
      }

-- a bit that is written, and another
bit_written : (a k j : ℕ) (v : Bool) (cpu : Cpu) → IsDevice a → k < 8 → j < 8 → length cpu.regs ≡ 128
    → flag (with_flag cpu a j v) a k ≡ (cond (k == j) (bit_of v) (bit_at (latch cpu a) k) == 1)
unfolding flag with_flag
bit_written a k j v cpu d hk hj n =
    rw (
      registers_are_written cpu a a _ n d.there d.low d.high d.low,
      eq-eqb a a refl,
      one_bit_is_replaced (latch cpu a) j k v hj hk,
    ) refl

pub is_set : (a k : ℕ) (cpu : Cpu) → (is_device a && nat_lt k 8) ≡ true → length cpu.regs ≡ 128
    → (flag (with_flag cpu a k true) a k ≡ true) × (length (with_flag cpu a k true).regs ≡ 128)
unfolding with_flag
is_set a k cpu h n =
    let t = and_parts (is_device a) (nat_lt k 8) h in
    let in_byte : k < 8 = grind (arith, nat_tests, t.1) in
    (rw (bit_written a k k true cpu (device a t.0) in_byte in_byte n, eq-eqb k k refl) refl, size_kept a _ cpu ∙ n)

flag_other : (a k b v : ℕ) (cpu : Cpu) → nat_le 128 a ≡ true → (nat_le 128 b && not (a == b)) ≡ true
    → flag (with_latch cpu b v) a k ≡ flag cpu a k
unfolding flag
flag_other a k b v cpu h ne = rw (latch_other b a v cpu h ne) refl

abbrev pub spared : ℕ → ℕ → Place → Bool
spared a k (Byte b) = nat_le 128 b && not (a == b)
spared a k (Bit b j) = nat_le 128 b && nat_lt j 8 && not (a == b && k == j)

bit_other : (a k b j : ℕ) (v : Bool) (cpu : Cpu) (t : Bool) → (a == b) ≡ t → IsDevice a → k < 8
    → spared a k (Bit b j) ≡ true → length cpu.regs ≡ 128 → flag (with_flag cpu b j v) a k ≡ flag cpu a k
unfolding with_flag flag
bit_other a k b j v cpu false is d hk h n =
    flag_other a k b _ cpu (grind (arith, nat_tests, d.low)) (grind (arith, h, is))
bit_other a k b j v cpu true is d hk h n =
    let same : a ≡ b = grind (arith, nat_tests, is) in
    let hj : j < 8 = grind (arith, nat_tests, h) in
    let ne : (k == j) ≡ false = grind (arith, nat_tests, is, h) in
    subst (λ b. flag (with_flag cpu b j v) a k ≡ flag cpu a k) same
    (bit_written a k j v cpu d hk hj n ∙ ap (λ t. cond t (bit_of v) (bit_at (latch cpu a) k) == 1) ne)

-- a register that is none of theirs stays
abbrev pub avoids : ℕ → Place → Bool
avoids a p = nat_le 128 (register p) && not (a == register p)

pub latch_kept : (a : ℕ) {ws : List Place} {x y : Cpu} → (nat_le 128 a && all (avoids a) ws) ≡ true → Writes ws x y
    → latch y a ≡ latch x a
unfolding with_flag
latch_kept a h (Nothing cpu) = refl
latch_kept a {ws} h (Stored b v cpu i) =
    let t = and_parts (nat_le 128 a) _ h in latch_other b a v cpu t.0 (each (avoids a) ws (Byte b) t.1 i)
latch_kept a {ws} h (Flagged b j v cpu i) =
    let t = and_parts (nat_le 128 a) _ h in latch_other b a _ cpu t.0 (each (avoids a) ws (Bit b j) t.1 i)
latch_kept a h (Then p q) = latch_kept a h q ∙ latch_kept a h p

pub bit_kept : (a k : ℕ) {ws : List Place} {x y : Cpu} → (nat_le 128 a && all (avoids a) ws) ≡ true → Writes ws x y
    → flag y a k ≡ flag x a k
unfolding flag
bit_kept a k h w = rw (latch_kept a h w) refl

abbrev pub is_kept : ℕ → ℕ → List Place → Bool
is_kept a k ws = is_device a && nat_lt k 8 && all (spared a k) ws

-- a bit that is not among the places stays
pub spares : (a k : ℕ) {ws : List Place} {x y : Cpu} → is_kept a k ws ≡ true → Writes ws x y → length x.regs ≡ 128
    → (flag y a k ≡ flag x a k) × (length y.regs ≡ 128)
unfolding with_flag
spares a k h (Nothing cpu) n = (refl, n)
spares a k {ws} h (Stored b v cpu i) n =
    let t = and_parts (is_device a && nat_lt k 8) _ h in
    let d = device a (and_parts (is_device a) _ t.0).0 in
    let low : nat_le 128 a ≡ true = grind (arith, nat_tests, d.low) in
    (flag_other a k b v cpu low (each (spared a k) ws (Byte b) t.1 i), size_kept b v cpu ∙ n)
spares a k {ws} h (Flagged b j v cpu i) n =
    let t = and_parts (is_device a && nat_lt k 8) _ h in
    let d = and_parts (is_device a) _ t.0 in
    let hk : k < 8 = grind (arith, nat_tests, d.1) in
    let o = each (spared a k) ws (Bit b j) t.1 i in
    (bit_other a k b j v cpu (a == b) refl (device a d.0) hk o n, size_kept b _ cpu ∙ n)
spares a k h (Then p q) n =
    let one = spares a k h p n in
    let two = spares a k h q one.1 in
    (two.0 ∙ one.0, two.1)

-- a bit of TCON that is 0 stays 0
stays_clear : (byte k j : ℕ) (v : Bool) → bit_and (2 ^ j) (255 - 2 ^ k) ≡ 2 ^ j → with_bit byte k false ≡ byte
    → with_bit (with_bit byte j v) k false ≡ with_bit byte j v
unfolding with_bit
stays_clear a k j true h c =
    same_from_bits _ _ (λ i.
    let one = simp bit_at_and at (ap (λ v. bit_at v i) c) in
    let two = simp bit_at_and at (ap (λ v. bit_at v i) h) in
    omega (arith, bit_at_and (bit_or a (2 ^ j)) (255 - 2 ^ k) i, bit_at_or a (2 ^ j) i, one, two))
stays_clear a k j false h c =
    same_from_bits _ _ (λ i.
    let one = simp bit_at_and at (ap (λ v. bit_at v i) c) in
    omega (arith, bit_at_and (bit_and a (255 - 2 ^ j)) (255 - 2 ^ k) i, bit_at_and a (255 - 2 ^ j) i, one))

abbrev pub leaves_clear : ℕ → Place → Bool
leaves_clear k (Byte b) = nat_le 128 b && not (tcon == b)
leaves_clear k (Bit b j) = nat_le 128 b && (not (tcon == b) || bit_and (2 ^ j) (255 - 2 ^ k) == 2 ^ j)

abbrev pub IsClear : ℕ → Cpu → Type 0
IsClear k cpu = with_bit (latch cpu tcon) k false ≡ latch cpu tcon

bit_clears : (k b j : ℕ) (v t : Bool) (cpu : Cpu) → (tcon == b) ≡ t → leaves_clear k (Bit b j) ≡ true
    → length cpu.regs ≡ 128 → IsClear k cpu → IsClear k (with_flag cpu b j v)
unfolding with_flag
bit_clears k b j v false cpu is h n c =
    rw (latch_other b tcon (with_bit (latch cpu b) j v) cpu refl (grind (arith, h, is))) c
bit_clears k b j v true cpu is h n c =
    let same : tcon ≡ b = grind (arith, nat_tests, is) in
    let fits : bit_and (2 ^ j) (255 - 2 ^ k) ≡ 2 ^ j = grind (arith, nat_tests, h, is) in
    subst (λ b. IsClear k (with_flag cpu b j v)) same
    (rw (stored tcon (with_bit (latch cpu tcon) j v) cpu refl n) (stays_clear _ k j v fits c))

pub clears : (k : ℕ) {ws : List Place} {x y : Cpu} → all (leaves_clear k) ws ≡ true → Writes ws x y
    → length x.regs ≡ 128 → IsClear k x → IsClear k y × (length y.regs ≡ 128)
unfolding with_flag
clears k h (Nothing cpu) n c = (c, n)
clears k {ws} h (Stored b v cpu i) n c =
    let t = each (leaves_clear k) ws (Byte b) h i in
    (rw (latch_other b tcon v cpu refl t) c, size_kept b v cpu ∙ n)
clears k {ws} h (Flagged b j v cpu i) n c =
    (bit_clears k b j v (tcon == b) cpu refl (each (leaves_clear k) ws (Bit b j) h i) n c, size_kept b _ cpu ∙ n)
clears k h (Then p q) n c = let one = clears k h p n c in clears k h q one.1 one.0

-- in either case of a test
either_by : {ws : List Place} {x : Cpu} {A : Type 0} (f : A → Cpu) (t : Bool) (b c : A) → Writes ws x (f b)
    → Writes ws x (f c) → Writes ws x (f (cond t b c))
either_by {ws} {x} f t b c p q = cond_both t b c (λ r. Writes ws x (f r)) (λ e. p) (λ e. q)

either : {ws : List Place} {x b c : Cpu} (t : Bool) → Writes ws x b → Writes ws x c → Writes ws x (cond t b c)
either {ws} {x} {b} {c} t p q = cond_both t b c (Writes ws x) (λ e. p) (λ e. q)

module _ {ws : List Place} where
  pub pair : (high low : ℕ) (t : TimerBytes) (cpu : Cpu) → has ws (Byte high) ≡ true → has ws (Byte low) ≡ true
      → Writes ws cpu (with_bytes high low t cpu)
  pair high low t cpu h l = Then (Stored high t.high cpu h) (Stored low t.low _ l)

  set_where : (b : Bool) (k : ℕ) (cpu : Cpu) → has ws (Bit tcon k) ≡ true → Writes ws cpu (flagged b k cpu)
  unfolding flagged
  set_where b k cpu h = either b (Flagged tcon k true cpu h) (Nothing cpu)

abbrev pub of_timer0 : List Place
of_timer0 = Byte th0 ∷ Byte tl0 ∷ Bit tcon tf0 ∷ []

pub timer0_writes : (levels : Levels) (cpu : Cpu) → Writes of_timer0 cpu (timer0_ticked levels cpu)
unfolding timer0_ticked
timer0_writes levels cpu =
    either (counts0 levels cpu) (Then (pair th0 tl0 _ cpu refl refl) (set_where _ tf0 _ refl)) (Nothing cpu)

abbrev pub of_th0 : List Place
of_th0 = Byte th0 ∷ Bit tcon tf1 ∷ []

th0_writes : (cpu : Cpu) → Writes of_th0 cpu (th0_ticked cpu)
unfolding th0_ticked
th0_writes cpu = either _ (Then (Stored th0 _ cpu refl) (set_where _ tf1 _ refl)) (Nothing cpu)

abbrev pub of_timer1 : List Place
of_timer1 = Byte th1 ∷ Byte tl1 ∷ Bit tcon tf1 ∷ []

timer1_writes : (levels : Levels) (cpu : Cpu) → Writes of_timer1 cpu (timer1_ticked levels cpu).cpu
unfolding timer1_ticked
timer1_writes levels cpu =
    either_by (λ (t : Timed). t.cpu) (counts1 levels cpu) _ _
    (Then (pair th1 tl1 _ cpu refl refl) (set_where _ tf1 _ refl)) (Nothing cpu)

abbrev pub of_timer2 : List Place
of_timer2 = Byte th2 ∷ Byte tl2 ∷ Byte rcap2h ∷ Byte rcap2l ∷ Bit t2con tf2 ∷ Bit t2con exf2 ∷ []

counts_write : (n : ℕ) (cpu : Cpu) → Writes of_timer2 cpu (counted_times n cpu).cpu
unfolding once_more
counts_write zero cpu = Nothing cpu
counts_write (suc n) cpu =
    let bytes = pair th2 tl2 _ (counted_times n cpu).cpu refl refl in
    Then (counts_write n cpu) (either _ (Then bytes (Flagged t2con tf2 true _ refl)) bytes)

timer2_writes : (levels : Levels) (cpu : Cpu) → Writes of_timer2 cpu (timer2_ticked levels cpu).cpu
unfolding t2ex_heeded exchanged2
timer2_writes levels cpu =
    Then (counts_write (times2 levels cpu) cpu)
    (either _
    (Then (Flagged t2con exf2 true _ refl)
    (either _ (Nothing _) (either _ (pair rcap2h rcap2l _ _ refl refl) (pair th2 tl2 _ _ refl refl)))) (Nothing _))

abbrev pub of_line : List Place
of_line = Bit scon ti ∷ []

line_writes : (one : Bool) (two : ℕ) (cpu : Cpu) (p : Periph) → Writes of_line cpu (sending_ticked one two cpu p).cpu
unfolding sending_ticked
line_writes one two cpu p =
    either_by (λ (t : Ticked). t.cpu) (p.left == 0) _ _ (Nothing cpu)
    (either_by (λ (t : Ticked). t.cpu) ((moved cpu one two p).left == 0) _ _ (Flagged scon ti true cpu refl)
    (Nothing cpu))

abbrev pub of_inputs : List Place
of_inputs = Byte sbuf ∷ Bit scon ri ∷ Bit scon rb8 ∷ Bit tcon ie0 ∷ Bit tcon ie1 ∷ []

frames_write : (fs : List Frame) (cpu : Cpu) → Writes of_inputs cpu (received fs cpu)
unfolding frame_met with_ninth
frames_write [] cpu = Nothing cpu
frames_write (f ∷ fs) cpu =
    Then (either (takes_frame cpu f)
    (Then (Then (Stored sbuf f.byte cpu refl) (Flagged scon ri true _ refl))
    (either _ (Nothing _) (Flagged scon rb8 f.ninth _ refl))) (Nothing cpu)) (frames_write fs _)

request_writes : (levels : Levels) (pin : Input) (it ask : ℕ) (cpu : Cpu) → has of_inputs (Bit tcon ask) ≡ true
    → Writes of_inputs cpu (requested levels pin it ask cpu)
unfolding requested
request_writes levels pin it ask cpu h =
    either (flag cpu tcon it) (either (falls levels pin) (Flagged tcon ask true cpu h) (Nothing cpu))
    (Flagged tcon ask _ cpu h)

pub inputs_write : (levels : Levels) (fs : List Frame) (s : Ticked)
    → Writes of_inputs s.cpu (inputs_ticked levels fs s).cpu
inputs_write levels fs s =
    Then (frames_write fs s.cpu)
    (Then (request_writes levels Int0 it0 ie0 _ refl) (request_writes levels Int1 it1 ie1 _ refl))

-- timer 0 and TH0, then timers 1 and 2, then the line
pub first_write : (levels : Levels) (cpu : Cpu)
    → Writes (of_timer0 ++ of_th0) cpu (th0_ticked (timer0_ticked levels cpu))
first_write levels cpu = Then (wider refl (timer0_writes levels cpu)) (wider refl (th0_writes _))

abbrev pub of_both : List Place
of_both = of_timer0 ++ of_th0 ++ of_timer1

pub both_write : (levels : Levels) (cpu : Cpu) → Writes of_both cpu (timers_ticked levels cpu).cpu
both_write levels cpu = Then (wider refl (first_write levels cpu)) (wider refl (timer1_writes levels _))

abbrev pub of_timers : List Place
of_timers = of_both ++ of_timer2

pub timers_write : (levels : Levels) (cpu : Cpu)
    → Writes of_timers cpu (timer2_ticked levels (timers_ticked levels cpu).cpu).cpu
timers_write levels cpu = Then (wider refl (both_write levels cpu)) (wider refl (timer2_writes levels _))

abbrev pub of_clocks : List Place
of_clocks = of_timers ++ of_line

pub clocks_write : (levels : Levels) (cpu : Cpu) (p : Periph) → Writes of_clocks cpu (clocks_ticked levels cpu p).cpu
clocks_write levels cpu p = Then (wider refl (timers_write levels cpu)) (wider refl (line_writes _ _ _ p))

-- what comes after timer 1, and after timer 0 and TH0
abbrev pub of_end : List Place
of_end = of_timer2 ++ of_line ++ of_inputs

pub end_writes : (cpu : Cpu) (ext : Pins) (fs : List Frame) (p : Periph)
    → Writes of_end (timers_ticked (levels_met p cpu ext) cpu).cpu (ticked cpu ext fs p).cpu
unfolding ticked
end_writes cpu ext fs p =
    Then (wider refl (timer2_writes (levels_met p cpu ext) _))
    (Then (wider refl (line_writes _ _ _ p))
    (wider refl (inputs_write (levels_met p cpu ext) fs (clocks_ticked (levels_met p cpu ext) cpu p))))

pub later_writes : (cpu : Cpu) (ext : Pins) (fs : List Frame) (p : Periph)
    → Writes (of_timer1 ++ of_end) (th0_ticked (timer0_ticked (levels_met p cpu ext) cpu)) (ticked cpu ext fs p).cpu
later_writes cpu ext fs p =
    Then (wider refl (timer1_writes (levels_met p cpu ext) _)) (wider refl (end_writes cpu ext fs p))

-- the whole tick
abbrev pub of_tick : List Place
of_tick = of_both ++ of_end

pub tick_writes : (cpu : Cpu) (ext : Pins) (fs : List Frame) (p : Periph) → Writes of_tick cpu (ticked cpu ext fs p).cpu
tick_writes cpu ext fs p =
    Then (wider refl (both_write (levels_met p cpu ext) cpu)) (wider refl (end_writes cpu ext fs p))

pub the_rest_is_kept : TheRestIsKept
the_rest_is_kept cpu ext fs p = keeps device_registers refl (tick_writes cpu ext fs p)

-- the two bytes of a timer, where they are kept, and where they are written
pub bytes_kept : (high low : ℕ) {ws : List Place} {x y : Cpu} → (nat_le 128 high && all (avoids high) ws) ≡ true
    → (nat_le 128 low && all (avoids low) ws) ≡ true → Writes ws x y → bytes_at high low y ≡ bytes_at high low x
bytes_kept high low h l w = rw (latch_kept high h w, latch_kept low l w) refl

abbrev pub is_pair : ℕ → ℕ → Bool
is_pair high low =
    is_device high && is_device low && not (high == low) && not (high == tcon) && not (low == tcon)

pub counted_bytes : (high low k : ℕ) (b : Bool) (t : TimerBytes) (cpu : Cpu) → is_pair high low ≡ true
    → length cpu.regs ≡ 128 → bytes_at high low (flagged b k (with_bytes high low t cpu)) ≡ t
counted_bytes high low k b t cpu h n =
    let up : is_device high ≡ true = grind (arith, h) in
    let down : is_device low ≡ true = grind (arith, h) in
    let u = device high up in
    let d = device low down in
    let one = with_latch cpu high t.high in
    let size = size_kept high t.high cpu ∙ n in
    let flag : Writes (Bit tcon k ∷ []) (with_latch one low t.low) (flagged b k (with_latch one low t.low)) =
    set_where b k _ (rw (eq-eqb k k refl) refl) in
    rw (
      latch_kept high (grind (arith, nat_tests, h, u.low)) flag,
      latch_kept low (grind (arith, nat_tests, h, d.low)) flag,
      latch_other low high t.low one (grind (arith, nat_tests, u.low)) (grind (arith, nat_tests, d.low, h)),
      stored high t.high cpu up n,
      stored low t.low one down size,
    ) refl

-- frames in two lists
pub received_both : (fs more : List Frame) (cpu : Cpu) → received (fs ++ more) cpu ≡ received more (received fs cpu)
received_both [] more cpu = refl
received_both (f ∷ fs) more cpu = received_both fs more (frame_met f cpu)

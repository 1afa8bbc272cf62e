-- Bytes and their bits; flags and rotations bit by bit.
use Rattle.m51_flat.proofs.Common.{◌≡◌, ◌≢◌, ℕ, zero, suc, ◌+◌, ◌-◌, ◌*◌, ◌/◌, ◌%◌, ◌<◌, Bool, true, false, cond, List}
use Rattle.m51_flat.proofs.Common.{Some, None, refl, sym, ap, subst, ◌∙◌, arith, length, get_or-set_same}
use Rattle.m51_flat.proofs.Common.{get_or-set_other, slice_index, slice_set, bit_at, eqb_tells, bit_of, Bit}
use Rattle.m51_flat.proofs.Common.{Value, CellState, States, Holds, Absent, bits_seen}
use Rattle.m51_flat.proofs.Common.{FlatBytes, flat_cells, lit<, ◌==◌}
use Rattle.std.proofs.Common.{◌^◌, inl, inr, pow_pos}
use Rattle.std.specs.Prelude.{bit_and, bit_or, if◌then◌else◌, nat_eq, nat_lt}
use Rattle.std.specs.Int.{w8}
use Rattle.std.proofs.Math.Arith.{mod-mul}
use Rattle.std.proofs.lemmas.Bool.{lt-ltb}
use Rattle.std.proofs.lemmas.Nat.Bits.{bit_at-suc, bit_at_set_same, bit_at_set_other, bit_at_clear_same}
use Rattle.std.proofs.lemmas.Nat.Bits.{bit_at_clear_other}
use Rattle.m51_isa.proofs.Distinct.{of_register}
use Rattle.m51_flat.specs.States.{byte_seen, state_over, states_after}
use Rattle.m51_flat.specs.Sfr.{with_bit}
use Rattle.m51_flat.proofs.Flat.{same_states}
use Rattle.m51_alu.specs.declared.sum.Sum.{Sum}
use Rattle.m51_flat.specs.Parts.{with_flags}
use Rattle.m51_flat.specs.BitLaws.{OneBitIsReplaced, HasFlags, FlagsAreWritten, BitsAreTurned}

two_pow_suc : (k : ℕ) → 2 ^ suc k ≡ 2 ^ k * 2
two_pow_suc k = grind arith

-- cells that hold the bits of a number are read as the number
pub bits_of : (s : States) (v k n : ℕ) → ((j : ℕ) → j < k → s.ram (n + j) ≡ Holds (bit_at v j))
    → bits_seen s k n ≡ Value (v % 2 ^ k)
bits_of s v zero n h = ap Value (omega arith)
bits_of s v (suc k) n h =
    let here : n + 0 ≡ n = omega arith in
    let first = subst (λ m. s.ram m ≡ Holds (bit_at v 0)) here (h 0 (omega arith)) in
    let rest = bits_of s (v / 2) k (n + 1) (λ j lt.
    let there : n + suc j ≡ n + 1 + j = omega arith in
    subst (λ m. s.ram m ≡ Holds (bit_at v (suc j))) there (h (suc j) (omega arith)) ∙ ap Holds (bit_at-suc v j)) in
    let split : v % (2 ^ k * 2) ≡ (v / 2 % 2 ^ k) * 2 + v % 2 = mod-mul v (pow_pos k) (omega arith) in
    let low : bit_at v 0 ≡ v % 2 = omega arith in
    let whole : bit_at v 0 + 2 * (v / 2 % 2 ^ k) ≡ v % 2 ^ suc k = omega (arith, ap (λ m. v % m) (two_pow_suc k)) in
    rw (first, rest) (ap Value whole)

-- flat memory answers its bytes
pub flat_byte : (m : FlatBytes) (a : ℕ) → a < 256 → slice_index m.ram a < 256
    → byte_seen (flat_cells m) a ≡ Value (slice_index m.ram a)
unfolding byte_seen
flat_byte m a inside h =
    bits_of (flat_cells m) (slice_index m.ram a) 8 (8 * a) (λ j lt.
    let q : (8 * a + j) / 8 ≡ a = omega arith in
    let r : (8 * a + j) % 8 ≡ j = omega arith in
    let below : 8 * a + j < 2048 = omega arith in
    rw (lt-ltb (8 * a + j) 2048 below, q, r) refl)
    ∙ ap Value (omega arith)

weight : (k : ℕ) → k < 8 → 1 * 2 ^ k % 2 ^ 8 ≡ 2 ^ k
weight k h = of_register (λ k. 1 * 2 ^ k % 2 ^ 8 ≡ 2 ^ k) refl refl refl refl refl refl refl refl k h

-- the bits of a byte with one bit replaced
pub bit_same : (byte k : ℕ) (b : Bool) → k < 8 → bit_at (with_bit byte k b) k ≡ bit_of b
unfolding with_bit
bit_same byte k true h = ap (λ w. bit_at (bit_or byte w) k) (sym (weight k h)) ∙ bit_at_set_same w8 byte k h
bit_same byte k false h = ap (λ w. bit_at (bit_and byte (255 - w)) k) (sym (weight k h)) ∙ bit_at_clear_same w8 byte k h

pub bit_other : (byte k j : ℕ) (b : Bool) → k < 8 → j < 8 → j ≢ k → bit_at (with_bit byte k b) j ≡ bit_at byte j
unfolding with_bit
bit_other byte k j true h i ne = rw (← weight k h) (bit_at_set_other w8 byte k h j ne)
bit_other byte k j false h i ne = rw (← weight k h) (bit_at_clear_other w8 byte k h j i ne)

-- internal RAM after a bit of it is written
abbrev set_bit : List ℕ → ℕ → Bool → List ℕ
set_bit ram address b = slice_set ram (32 + address / 8) (with_bit (slice_index ram (32 + address / 8)) (address % 8) b)

same_cell : (ram : List ℕ) (address : ℕ) (b : Bool) (n : ℕ) → address < 256 → length ram ≡ 256 → n ≡ 256 + address
    → bit_at (slice_index (set_bit ram address b) (n / 8)) (n % 8) ≡ bit_of b
same_cell ram address b n h len e =
    let i = 32 + address / 8 in
    let k = address % 8 in
    let w = with_bit (slice_index ram i) k b in
    let q : n / 8 ≡ i = omega arith in
    let r : n % 8 ≡ k = omega arith in
    let inside : i < length ram = omega arith in
    rw (q, r, get_or-set_same ram i w 0 inside) (bit_same (slice_index ram i) k b (omega arith))

other_cell : (ram : List ℕ) (address : ℕ) (b : Bool) (n : ℕ) → address < 256 → length ram ≡ 256 → n ≢ 256 + address
    → bit_at (slice_index (set_bit ram address b) (n / 8)) (n % 8) ≡ bit_at (slice_index ram (n / 8)) (n % 8)
other_cell ram address b n h len ne =
    let i = 32 + address / 8 in
    let k = address % 8 in
    let w = with_bit (slice_index ram i) k b in
    let inside : i < length ram = omega arith in
    elim (eqb_tells (n / 8) i) [
      | inl t ↦ rw (t.1, get_or-set_same ram i w 0 inside)
          (bit_other (slice_index ram i) k (n % 8) b (omega arith) (omega arith) (λ r. ne (omega arith)))
      | inr t ↦ rw (get_or-set_other ram i (n / 8) w 0 t.1) refl
    ]

ram_with_bit : (ram : List ℕ) (address : ℕ) (b : Bool) (n : ℕ) → address < 256 → length ram ≡ 256
    → cond (nat_lt n 2048) (Holds (bit_at (slice_index (set_bit ram address b) (n / 8)) (n % 8))) Absent
    ≡ (if nat_eq n (256 + address) then Holds (bit_of b) else cond (nat_lt n 2048)
    (Holds (bit_at (slice_index ram (n / 8)) (n % 8))) Absent)
ram_with_bit ram address b n h len =
    elim (eqb_tells n (256 + address)) [
      | inl t ↦ rw (t.0, lt-ltb n 2048 (omega arith)) (ap Holds (same_cell ram address b n h len t.1))
      | inr t ↦ rw (t.0, other_cell ram address b n h len t.1) refl
    ]

-- a cell that is written where a test passes
over_if : (b : Bool) (v : ℕ) (old : CellState) → cond b (Holds v) old ≡ state_over (cond b (Some v) None) old
over_if b v old = grind arith

-- the cells of flat memory after a bit is written
pub flat_bit : (m : FlatBytes) (address : ℕ) (b : Bool) → address < 256 → length m.ram ≡ 256
    → flat_cells (record { ram = set_bit m.ram address b; xram = m.xram }) ≡ states_after (Bit address b) (flat_cells m)
flat_bit m address b h len =
    same_states (flat_cells (record { ram = set_bit m.ram address b; xram = m.xram }))
    (states_after (Bit address b) (flat_cells m))
    (λ n. ram_with_bit m.ram address b n h len ∙ over_if (nat_eq n (256 + address)) (bit_of b) ((flat_cells m).ram n))
    (λ n. refl)

pub one_bit_is_replaced : OneBitIsReplaced
one_bit_is_replaced byte k j b h i =
    elim (eqb_tells j k) [
      | inl t ↦ rw (t.0, t.1) (bit_same byte k b h)
      | inr t ↦ rw t.0 (bit_other byte k j b h i t.1)
    ]

-- the bit that was written last, and those that were written before
flags_of : (s : Sum) (psw : ℕ) → HasFlags s psw (with_bit (with_bit (with_bit psw 7 s.cy) 6 s.ac) 2 s.ov)
flags_of s psw =
    let one = with_bit psw 7 s.cy in
    let two = with_bit one 6 s.ac in
    let far72 : 7 ≢ 2 = λ (h : 7 ≡ 2). omega (arith, h) in
    let far76 : 7 ≢ 6 = λ (h : 7 ≡ 6). omega (arith, h) in
    let far62 : 6 ≢ 2 = λ (h : 6 ≡ 2). omega (arith, h) in
    record {
      cy = bit_other two 2 7 s.ov (lit< tt) (lit< tt) far72 ∙ bit_other one 6 7 s.ac (lit< tt) (lit< tt) far76
          ∙ bit_same psw 7 s.cy (lit< tt);
      ac = bit_other two 2 6 s.ov (lit< tt) (lit< tt) far62 ∙ bit_same one 6 s.ac (lit< tt);
      ov = bit_same two 2 s.ov (lit< tt);
      others = λ k h n7 n6 n2. bit_other two 2 k s.ov (lit< tt) h n2 ∙ bit_other one 6 k s.ac (lit< tt) h n6
          ∙ bit_other psw 7 k s.cy (lit< tt) h n7;
    }

pub flags_are_written : FlagsAreWritten
unfolding with_flags
flags_are_written s psw = flags_of s psw

-- bit k of what is turned
record TurnedAt (a c k : ℕ) : Type 0 where
  right : bit_at (a / 2 + 128 * (a % 2)) k ≡ bit_at a ((k + 1) % 8)
  left : bit_at (a % 128 * 2 + a / 128) k ≡ bit_at a ((k + 7) % 8)
  swapped : bit_at (a % 16 * 16 + a / 16) k ≡ bit_at a ((k + 4) % 8)
  complement : bit_at (255 - a) k + bit_at a k ≡ 1
  right_carry : k < 7 → bit_at (a / 2 + 128 * c) k ≡ bit_at a (k + 1)
  left_carry : k < 7 → bit_at (a % 128 * 2 + c) (k + 1) ≡ bit_at a k

turned : (a c k : ℕ) → a < 256 → c < 2 → k < 8 → TurnedAt a c k
turned a c k h b = of_register (TurnedAt a c) (grind arith) (grind arith) (grind arith) (grind arith) (grind arith)
    (grind arith) (grind arith) (grind arith) k

right_in : (a c : ℕ) → a < 256 → c < 2 → bit_at (a / 2 + 128 * c) 7 ≡ c
right_in a c h b = omega (arith, h, b)

left_in : (a c : ℕ) → a < 256 → c < 2 → bit_at (a % 128 * 2 + c) 0 ≡ c
left_in a c h b = omega (arith, h, b)

is_one : (n : ℕ) → n < 2 → bit_of (n == 1) ≡ n
is_one n h = grind (arith, eqb_tells n 1)

bit_small : (b : Bool) → bit_of b < 2
bit_small b = grind arith

pub bits_are_turned : BitsAreTurned
bits_are_turned a cy ac h = record {
  right = λ k i. (at k i).right;
  left = λ k i. (at k i).left;
  swapped = λ k i. (at k i).swapped;
  complement = λ k i. (at k i).complement;
  right_carry = λ k i. (at k (omega arith)).right_carry i;
  right_carry_in = right_in a (bit_of cy) h (bit_small cy);
  right_carry_out = omega (arith, is_one (a % 2) (omega arith));
  left_carry = λ k i. (at k (omega arith)).left_carry i;
  left_carry_in = left_in a (bit_of cy) h (bit_small cy);
  left_carry_out = omega (arith, is_one (a / 128) (omega arith));
} where
  at : (k : ℕ) → k < 8 → TurnedAt a (bit_of cy) k
  at k i = turned a (bit_of cy) k h (bit_small cy) i

-- What the operations on bytes give, from the family manual.
use Rattle.std.specs.Prelude.{ℕ, zero, suc, ◌+◌, ◌-◌, ◌*◌, ◌/◌, ◌%◌, Bool, true, false, ◌||◌, ◌==◌, nat_lt, nat_le}
use Rattle.std.specs.Prelude.{if◌then◌else◌, ℤ, pos, negsuc, ◌+ℤ◌, ◌-ℤ◌, int_lt, count_ones}
use Rattle.m51_alu.specs.declared.sum.Sum.{Sum}

-- a flag as a number
abbrev pub bit_of : Bool → ℕ
bit_of true = 1
bit_of false = 0

-- a byte in two's complement
abbrev pub signed : ℕ → ℤ
signed a = if nat_lt a 128 then pos a else negsuc (255 - a)

-- below -128 or above 127: not the value of any byte in two's complement
abbrev pub overflows : ℤ → Bool
overflows z = int_lt z (negsuc 127) || int_lt (pos 127) z

-- the sum modulo 256, with the carries out of bits 7 and 3, and signed overflow
abbrev pub sum_of : ℕ → ℕ → Bool → Sum
sum_of a b carry = record {
  value = (a + b + bit_of carry) % 256;
  cy = nat_le 256 (a + b + bit_of carry);
  ac = nat_le 16 (a % 16 + b % 16 + bit_of carry);
  ov = overflows (signed a +ℤ signed b +ℤ pos (bit_of carry));
}

-- the difference modulo 256, with the borrows into bits 7 and 3, and signed overflow
abbrev pub difference_of : ℕ → ℕ → Bool → Sum
difference_of a b borrow = record {
  value = (256 + a - (b + bit_of borrow)) % 256;
  cy = nat_lt a (b + bit_of borrow);
  ac = nat_lt (a % 16) (b % 16 + bit_of borrow);
  ov = overflows (signed a -ℤ signed b -ℤ pos (bit_of borrow));
}

-- a number added where the test holds, and whether a carry came out now or before
abbrev pub corrected : Bool → ℕ → ℕ × Bool → ℕ × Bool
corrected true n s = ((s.0 + n) % 256, s.1 || nat_le 256 (s.0 + n))
corrected false n s = s

-- 60H is added where the high digit is above 9 or there is a carry
abbrev pub high_corrected : ℕ × Bool → ℕ × Bool
high_corrected s = corrected (nat_lt 9 (s.0 / 16) || s.1) 0x60 s

-- first 6 is added where the low digit is above 9 or there is a carry out of it; then the high digit is corrected
abbrev pub adjusted : ℕ → Bool → Bool → ℕ × Bool
adjusted a cy ac = high_corrected (corrected (nat_lt 9 (a % 16) || ac) 6 (a, cy))

-- the low byte, the high byte, and whether the product exceeds 255
abbrev pub product_of : ℕ → ℕ → ℕ × ℕ × Bool
product_of a b = (a * b % 256, a * b / 256, nat_lt 255 (a * b))

-- the quotient, the remainder, and whether the divisor is 0, where both bytes stay
abbrev pub quotient_of : ℕ → ℕ → ℕ × ℕ × Bool
quotient_of a zero = (a, 0, true)
quotient_of a (suc b) = (a / suc b, a % suc b, false)

-- an odd number of ones
abbrev pub parity_of : ℕ → Bool
parity_of a = count_ones a % 2 == 1

-- What the operations on bytes mean as numbers, from the family manual.
use Rattle.std.specs.Prelude.{◌≡◌, ℕ, ◌+◌, ◌*◌, ◌/◌, ◌%◌, ◌<◌, ◌⊎◌, ◌↔◌, Bool, false, IsTrue}
use Rattle.m51_alu.specs.declared.sum.Sum.{Sum}
use Rattle.m51_alu.specs.Arithmetic.{bit_of, sum_of, difference_of, product_of, quotient_of, parity_of}

-- a byte in two's complement, counted from -128: 0 is -128, 128 is 0, 255 is 127
abbrev pub above_least : ℕ → ℕ
above_least a = (a + 128) % 256

-- A sum of two bytes and a carry: CY is worth 256, AC is worth 16 in the low digits, and OV says that the signed sum is
-- below -128 or above 127. Where OV is clear, the byte in two's complement is the signed sum.
pub record IsByteSum (a b carry : ℕ) (sum : Sum) : Type 0 where
  pub byte : sum.value < 256
  pub all : 256 * bit_of sum.cy + sum.value ≡ a + b + carry
  pub low : 16 * bit_of sum.ac + sum.value % 16 ≡ a % 16 + b % 16 + carry
  pub overflow : IsTrue sum.ov
      ↔ ((above_least a + above_least b + carry < 128) ⊎ (383 < above_least a + above_least b + carry))
  pub signed : sum.ov ≡ false → above_least sum.value + 128 ≡ above_least a + above_least b + carry

-- A difference of a byte and another with a borrow: CY is a borrow of 256, AC one of 16 for the low digits, and OV says
-- that the signed difference is below -128 or above 127. Where OV is clear, the byte is the signed difference.
pub record IsByteDifference (a b borrow : ℕ) (difference : Sum) : Type 0 where
  pub byte : difference.value < 256
  pub all : difference.value + b + borrow ≡ 256 * bit_of difference.cy + a
  pub low : difference.value % 16 + b % 16 + borrow ≡ 16 * bit_of difference.ac + a % 16
  pub overflow : IsTrue difference.ov
      ↔ ((above_least a + 128 < above_least b + borrow) ⊎ (above_least b + borrow + 127 < above_least a))
  pub signed : difference.ov ≡ false → above_least difference.value + above_least b + borrow ≡ above_least a + 128

-- A, B and OV after a product: B is worth 256, and OV says that B is not 0.
pub record IsByteProduct (a b : ℕ) (after : ℕ × ℕ × Bool) : Type 0 where
  pub byte : after.0 < 256
  pub high : after.1 < 256
  pub all : 256 * after.1 + after.0 ≡ a * b
  pub overflow : IsTrue after.2 ↔ (0 < after.1)

-- A, B and OV after a quotient by a number that is not 0.
pub record IsByteQuotient (a b : ℕ) (after : ℕ × ℕ × Bool) : Type 0 where
  pub all : after.0 * b + after.1 ≡ a
  pub less : after.1 < b
  pub defined : after.2 ≡ false

-- the ones among the eight bits of a byte
abbrev pub ones_of : ℕ → ℕ
ones_of a =
    a % 2 + a / 2 % 2 + a / 4 % 2 + a / 8 % 2 + a / 16 % 2 + a / 32 % 2 + a / 64 % 2 + a / 128 % 2

-- The laws.

-- ADD and ADDC, of all bytes, with each carry
abbrev pub SumsAreExact : Type 0
SumsAreExact =
    (a b : ℕ) (carry : Bool) → a < 256 → b < 256 → IsByteSum a b (bit_of carry) (sum_of a b carry)

-- SUBB, of all bytes, with each borrow
abbrev pub DifferencesAreExact : Type 0
DifferencesAreExact =
    (a b : ℕ) (borrow : Bool) → a < 256 → b < 256 → IsByteDifference a b (bit_of borrow) (difference_of a b borrow)

-- MUL, of all bytes
abbrev pub ProductsAreExact : Type 0
ProductsAreExact = (a b : ℕ) → a < 256 → b < 256 → IsByteProduct a b (product_of a b)

-- DIV, of all bytes and each divisor but 0
abbrev pub QuotientsAreExact : Type 0
QuotientsAreExact = (a b : ℕ) → 0 < b → IsByteQuotient a b (quotient_of a b)

-- P is what makes the number of ones in A and P even
abbrev pub ParityIsEven : Type 0
ParityIsEven = (a : ℕ) → a < 256 → (ones_of a + bit_of (parity_of a)) % 2 ≡ 0

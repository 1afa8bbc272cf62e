-- Decimal addition by ADD or ADDC, and DA.
use Rattle.std.specs.Prelude.{◌≡◌, ℕ, ◌+◌, ◌*◌, ◌/◌, ◌%◌, ◌<◌, Bool, nat_le}
use Rattle.m51_alu.specs.declared.sum.Sum.{Sum}
use Rattle.m51_alu.specs.Arithmetic.{adjusted, bit_of, sum_of}

-- two decimal digits in a byte
abbrev pub digits_of : ℕ → ℕ
digits_of n = n / 10 * 16 + n % 10

-- A and CY after DA, where the sum has set A and the flags
abbrev pub decimal : Sum → ℕ × Bool
decimal s = adjusted s.value s.cy s.ac

-- ADD or ADDC and then DA add numbers below a hundred and a carry
abbrev pub DecimalSum : Type 0
DecimalSum =
    (x y : ℕ) (carry : Bool) → x < 100 → y < 100
    → decimal (sum_of (digits_of x) (digits_of y) carry)
    ≡ (digits_of ((x + y + bit_of carry) % 100), nat_le 100 (x + y + bit_of carry))

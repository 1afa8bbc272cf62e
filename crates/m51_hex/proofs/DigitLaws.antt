-- Digits of bytes: what is written in upper case is read, and what is read is written so.
use Rattle.std.proofs.Common.{◌≡◌, ℕ, ◌+◌, ◌*◌, ◌/◌, ◌%◌, ◌<◌, true, List, [], ◌∷◌, length, map, refl, arith}
use Rattle.std.specs.Prelude.{flat_map}
use Rattle.std.specs.Char.{digit_value, to_ascii_uppercase}
use Rattle.std.specs.Fmt.{digit_glyph}
use Rattle.std.specs.List.{list_all}
use Rattle.std.proofs.lemmas.Bool.Decides.{nat_tests}
use Rattle.m51_cells.specs.Hex.{hex2, is_hex_digit}
use Rattle.m51_cells.proofs.Members.{Every}
use Rattle.m51_hex.specs.Line.{bytes_of_digits}

-- a digit in upper case is that of its value
glyph_of_value : (c n : ℕ) → digit_value c < 16 → digit_value c ≡ n → to_ascii_uppercase c ≡ digit_glyph true n
glyph_of_value c n small e = grind (arith, nat_tests)

-- what is a digit in upper case has its value
value_of_glyph : (c n : ℕ) → n < 16 → to_ascii_uppercase c ≡ digit_glyph true n → digit_value c ≡ n
value_of_glyph c n small e = grind (arith, nat_tests)

-- digits in pairs are, in upper case, those of the bytes that they write
pub upper_digits : (digits : List ℕ) → list_all is_hex_digit digits ≡ true → length digits % 2 ≡ 0
    → map to_ascii_uppercase digits ≡ flat_map hex2 (bytes_of_digits digits)
upper_digits [] all even = refl
upper_digits (single ∷ []) all even = absurd (omega (arith, even))
upper_digits (high ∷ low ∷ more) all even =
    let h : digit_value high < 16 = grind (arith, nat_tests) in
    let l : digit_value low < 16 = grind (arith, nat_tests) in
    let others : map to_ascii_uppercase more ≡ flat_map hex2 (bytes_of_digits more) =
    upper_digits more (grind arith) (omega (arith, even)) in
    rw (
      glyph_of_value high ((16 * digit_value high + digit_value low) / 16) h (omega arith),
      glyph_of_value low ((16 * digit_value high + digit_value low) % 16) l (omega arith),
      others,
    ) refl

-- such bytes are below 256
pub bytes_below : (digits : List ℕ) → list_all is_hex_digit digits ≡ true
    → Every (λ byte. byte < 256) (bytes_of_digits digits)
bytes_below [] all = tt
bytes_below (single ∷ []) all = tt
bytes_below (high ∷ low ∷ more) all = (grind (arith, nat_tests), bytes_below more (grind arith))

-- what is read of digits that are, in upper case, those of bytes
pub record Reads (bytes digits : List ℕ) : Type 0 where
  pub all : list_all is_hex_digit digits ≡ true
  pub even : length digits % 2 ≡ 0
  pub is : bytes_of_digits digits ≡ bytes

pub digits_read : (bytes digits : List ℕ) → Every (λ byte. byte < 256) bytes → map to_ascii_uppercase digits
    ≡ flat_map hex2 bytes → Reads bytes digits
digits_read [] [] below e = record { all = refl; even = refl; is = refl }
digits_read [] (d ∷ ds) below e = absurd cc
digits_read (b ∷ bs) [] below e = absurd cc
digits_read (b ∷ bs) (single ∷ []) below e = absurd cc
digits_read (b ∷ bs) (high ∷ low ∷ more) below e =
    let fits : b < 256 = below.0 in
    let h : digit_value high ≡ b / 16 = value_of_glyph high (b / 16) (omega arith) (cc) in
    let l : digit_value low ≡ b % 16 = value_of_glyph low (b % 16) (omega arith) (cc) in
    let others = digits_read bs more below.1 (cc) in
    let byte : 16 * digit_value high + digit_value low ≡ b = omega (arith, h, l) in
    record {
      all = grind (arith, nat_tests, others.all);
      even = omega (arith, others.even);
      is = rw (byte, others.is) refl;
    }

-- digits in upper case stay themselves
glyph_is_upper : (n : ℕ) → n < 16 → to_ascii_uppercase (digit_glyph true n) ≡ digit_glyph true n
glyph_is_upper n small = grind (arith, nat_tests)

pub written_is_upper : (bytes : List ℕ) → Every (λ byte. byte < 256) bytes
    → map to_ascii_uppercase (flat_map hex2 bytes) ≡ flat_map hex2 bytes
written_is_upper [] below = refl
written_is_upper (b ∷ bs) below =
    let fits : b < 256 = below.0 in
    rw (glyph_is_upper (b / 16) (omega arith), glyph_is_upper (b % 16) (omega arith), written_is_upper bs below.1) refl

-- Hexadecimal digits: written in upper case and in fixed width, read in either case.
use Rattle.std.specs.Prelude.{ℕ, Bool, true, ◌/◌, ◌%◌, if◌then◌else◌, List, [], ◌∷◌, ◌++◌, Option, Some, None}
use Rattle.std.specs.Char.{is_digit, digit_value as value_of}
use Rattle.std.specs.Fmt.{digit_glyph}

-- the two digits of a byte
abbrev pub hex2 : ℕ → List ℕ
hex2 byte = digit_glyph true (byte / 16) ∷ digit_glyph true (byte % 16) ∷ []

-- the four digits of a number of two bytes
abbrev pub hex4 : ℕ → List ℕ
hex4 number = hex2 (number / 256) ++ hex2 (number % 256)

-- the byte is a digit, in either case
abbrev pub is_hex_digit : ℕ → Bool
is_hex_digit byte = is_digit byte 16

-- the value of a digit, in either case
abbrev pub digit_value : ℕ → Option ℕ
digit_value byte = if is_hex_digit byte then Some (value_of byte) else None

-- The number that a run of letters and digits writes (the assembler's rules of numbers).
use Rattle.std.specs.Prelude.{ℕ, ◌+◌, ◌-◌, ◌*◌, nat_lt, nat_le, if◌then◌else◌, List, [], ◌∷◌, length, take, Option}
use Rattle.std.specs.Prelude.{Some, None, slice_index, codes}
use Rattle.std.specs.Char.{digit_value}
use Rattle.m51_lex.specs.Characters.{is_character_among}

-- the last character of a run
abbrev pub last_of : List ℕ → ℕ
last_of run = slice_index run (length run - 1)

-- the base that a last character names, in either case, and else 10
abbrev pub suffix_radix : ℕ → ℕ
suffix_radix last =
    if is_character_among last (codes "Hh") then 16
    else if is_character_among last (codes "Bb") then 2
    else if is_character_among last (codes "OoQq") then 8
    else 10

-- the digits of a run: all of it but a last letter that names the base
abbrev pub digits_of : List ℕ → List ℕ
digits_of run = if is_character_among (last_of run) (codes "HhBbDdOoQq") then take (length run - 1) run else run

-- the value of digits in a base after a value, or none where one is no digit of the base
abbrev pub value_in : ℕ → ℕ → List ℕ → Option ℕ
value_in base value [] = Some value
value_in base value (c ∷ cs) =
    if nat_lt (digit_value c) base then value_in base (value * base + digit_value c) cs else None

-- a value of 16 bits
abbrev pub of_16_bits : Option ℕ → Option ℕ
of_16_bits None = None
of_16_bits (Some n) = if nat_le n 65535 then Some n else None

-- the number of a run, or none where a digit is wrong or it has more than 16 bits
unfoldable pub number_of : List ℕ → Option ℕ
number_of run = of_16_bits (value_in (suffix_radix (last_of run)) 0 (digits_of run))

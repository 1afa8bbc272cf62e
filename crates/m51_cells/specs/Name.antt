-- Names: 1 to 31 letters, digits, ? and _, of which the first is no digit, in upper case; and titles of absolute
-- segments.
use Rattle.std.specs.Prelude.{◌≡◌, ℕ, Bool, false, not, ◌||◌, ◌&&◌, ◌==◌, nat_le, if◌then◌else◌, List, [], ◌∷◌}
use Rattle.std.specs.Prelude.{length, map, Option, Some, None}
use Rattle.std.specs.List.{list_all}
use Rattle.std.specs.Char.{is_ascii_digit, is_ascii_alphanumeric, to_ascii_uppercase}
use Rattle.m51_cells.specs.Hex.{hex4}

-- a letter, a digit, ? or _
abbrev pub is_name_byte : ℕ → Bool
is_name_byte byte = is_ascii_alphanumeric byte || byte == 0x3F || byte == 0x5F

-- 1 to 31 such bytes, the first of them no digit
abbrev pub is_name : List ℕ → Bool
is_name [] = false
is_name (first ∷ more) =
    not (is_ascii_digit first) && nat_le (length (first ∷ more)) 31 && list_all is_name_byte (first ∷ more)

-- the name that a text writes, if it writes one
abbrev pub name_of : List ℕ → Option (List ℕ)
name_of text = if is_name text then Some (map to_ascii_uppercase text) else None

-- a text writes the name, and the name writes itself, being in upper case
abbrev pub IsWritten : List ℕ → Type 0
IsWritten name = name_of name ≡ Some name

-- the title of an absolute segment: @ and the four digits of its base
abbrev pub title_at : ℕ → List ℕ
title_at base = 0x40 ∷ hex4 base

-- none of the bytes is a small letter
abbrev pub IsUpper : List ℕ → Type 0
IsUpper bytes = map to_ascii_uppercase bytes ≡ bytes

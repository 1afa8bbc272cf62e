-- How control lines name units and segments.
use Rattle.std.specs.Prelude.{ℕ, ◌+◌, ◌*◌, ◌==◌, if◌then◌else◌, List, [], ◌∷◌, Option, Some, None}
use Rattle.std.specs.List.{slice_split}
use Rattle.m51_cells.specs.Hex.{digit_value}
use Rattle.m51_cells.specs.Name.{name_of, title_at}
use Rattle.m51_control.specs.declared.naming.Role.{Role}
use Rattle.m51_control.specs.declared.naming.Role.TheVariants as role
use Rattle.m51_control.specs.Parts.{◌>>=◌, at_sign, comma, is_sign, single_part}

-- the number of four hexadecimal digits
abbrev pub hex4_value : ℕ → ℕ → ℕ → ℕ → Option ℕ
hex4_value a b c d = do
  a ← digit_value a
  b ← digit_value b
  c ← digit_value c
  d ← digit_value d
  Some (a * 4096 + b * 256 + c * 16 + d)

-- the title of an absolute segment that a text writes: @ and four hexadecimal digits
abbrev pub absolute_title : List ℕ → Option (List ℕ)
absolute_title (sign ∷ a ∷ b ∷ c ∷ d ∷ []) =
    if sign == at_sign then hex4_value a b c d >>= (λ base. Some (title_at base)) else None
absolute_title _ = None

-- a unit is written by its name or, if it is absolute, by its title
abbrev pub unit_of : List ℕ → Option (List ℕ)
unit_of (sign ∷ digits) = if sign == at_sign then absolute_title (sign ∷ digits) else name_of (sign ∷ digits)
unit_of [] = None

-- the name that a part writes: only a unit may be written by its title
abbrev pub name_as : Role → List ℕ → Option (List ℕ)
name_as role.Unit part = unit_of part
name_as role.Segment part = name_of part

-- the name of a text, with blanks before and after it
abbrev pub trimmed_name : Role → List ℕ → Option (List ℕ)
trimmed_name r text = single_part text >>= name_as r

-- what each of these texts names, where each does
abbrev pub all_named : Role → List (List ℕ) → Option (List (List ℕ))
all_named r [] = Some []
all_named r (text ∷ texts) = do
  name ← trimmed_name r text
  names ← all_named r texts
  Some (name ∷ names)

-- one or more names, with commas between them
abbrev pub names_in : Role → List ℕ → Option (List (List ℕ))
names_in r text = all_named r (slice_split (is_sign comma) text)

-- The parts of a control line: words and signs, with blanks allowed before and after each.
use Rattle.std.specs.Prelude.{◌≡◌, ℕ, ◌-◌, Bool, ◌&&◌, ◌==◌, nat_lt, if◌then◌else◌, List, [], ◌∷◌, take, drop}
use Rattle.std.specs.Prelude.{length, Option}
use Rattle.std.specs.Prelude.{Some, None, option_and_then, slice_index}
use Rattle.std.specs.List.{list_all, prefix_len, position_or_len, slice_split, before_first, after_first}
use Rattle.m51_cells.specs.Blanks.{is_blank}
use Rattle.m51_cells.specs.Name.{name_of}

-- continues with the value; `None` stays `None`
infixl 10 ◌>>=◌
abbrev pub ◌>>=◌ : {A B : Type 0} → Option A → (A → Option B) → Option B
found >>= go = option_and_then go found

-- the signs by name
abbrev pub open_parenthesis : ℕ
open_parenthesis = 0x28

abbrev pub close_parenthesis : ℕ
close_parenthesis = 0x29

abbrev pub comma : ℕ
comma = 0x2C

abbrev pub hyphen : ℕ
hyphen = 0x2D

abbrev pub greater : ℕ
greater = 0x3E

abbrev pub at_sign : ℕ
at_sign = 0x40

abbrev pub tilde : ℕ
tilde = 0x7E

-- the byte is this sign
abbrev pub is_sign : ℕ → ℕ → Bool
is_sign sign byte = byte == sign

-- the text before the first of these signs, and the text after it
abbrev pub cut_at : ℕ → List ℕ → Option (List ℕ × List ℕ)
cut_at sign text =
    if nat_lt (position_or_len (is_sign sign) text) (length text)
    then Some (before_first (is_sign sign) text, after_first (is_sign sign) text)
    else None

-- the text is the one part between such signs
abbrev pub IsOnePart : ℕ → List ℕ → Type 0
IsOnePart sign text = slice_split (is_sign sign) text ≡ text ∷ []

-- the first part between such signs, and the rest with the others
abbrev pub SplitsInto : ℕ → List ℕ → List ℕ → List ℕ → Type 0
SplitsInto sign text first rest = slice_split (is_sign sign) text ≡ first ∷ slice_split (is_sign sign) rest

-- the text before this sign, where that is the last byte
abbrev pub before_last : ℕ → List ℕ → Option (List ℕ)
before_last sign text =
    if nat_lt 0 (length text) && is_sign sign (slice_index text (length text - 1))
    then Some (take (length text - 1) text)
    else None

-- the part that comes first, with only blanks after it
abbrev pub before_blanks : List ℕ → Option (List ℕ)
before_blanks text =
    let len = position_or_len is_blank text in
    if list_all is_blank (drop len text) then Some (take len text) else None

-- the one part of a text, with blanks before and after it
abbrev pub single_part : List ℕ → Option (List ℕ)
single_part text = before_blanks (drop (prefix_len is_blank text) text)

-- the word or name of a text, in upper case, with blanks before and after it
abbrev pub word_in : List ℕ → Option (List ℕ)
word_in text = single_part text >>= name_of

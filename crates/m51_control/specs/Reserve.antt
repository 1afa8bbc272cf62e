-- Ranges of memory that a control line keeps free: `DATA(lo-hi)` and `XDATA(lo-hi)`.
use Rattle.std.specs.Prelude.{ℕ, ◌-◌, ◌<◌, ◌≤◌, Bool, false, ◌&&◌, nat_lt, nat_le, if◌then◌else◌, List, [], ◌∷◌, codes}
use Rattle.std.specs.Prelude.{Option, Some, None, Ok}
use Rattle.std.specs.Char.{is_ascii_alphanumeric}
use Rattle.std.specs.List.{list_all}
use Rattle.std.specs.Str.{bytes_eq}
use Rattle.m51_cells.specs.declared.cell.Space.{Space}
use Rattle.m51_cells.specs.declared.cell.Space.TheVariants as space
use Rattle.m51_lex.specs.declared.token.What.{What}
use Rattle.m51_lex.specs.declared.token.What.TheVariants.{Number}
use Rattle.m51_lex.specs.Tokens.{Cut, tokens_of}
use Rattle.m51_control.specs.declared.control.Control.{Control}
use Rattle.m51_control.specs.declared.control.Control.TheVariants.{Reserve}
use Rattle.m51_cells.specs.Blanks.{is_blank}
use Rattle.m51_control.specs.Parts.{◌>>=◌, open_parenthesis, close_parenthesis, hyphen, cut_at, single_part, word_in}

-- the number that a token is
abbrev pub number_of_token : What → Option ℕ
number_of_token (Number n) = Some n
number_of_token _ = None

-- the number that is the one token
abbrev pub number_of_tokens : Cut → Option ℕ
number_of_tokens (Ok (token ∷ [])) = number_of_token token.what
number_of_tokens _ = None

-- the number that a run of letters and digits writes in the assembler's language
abbrev pub assembler_number : List ℕ → Option ℕ
assembler_number run = if list_all is_ascii_alphanumeric run then number_of_tokens (tokens_of run) else None

-- the number of a text, with blanks before and after it
abbrev pub trimmed_number : List ℕ → Option ℕ
trimmed_number text = single_part text >>= assembler_number

-- the first and the last address, with a hyphen between them
abbrev pub bounds_of : List ℕ → Option (ℕ × ℕ)
bounds_of text = do
  cut ← cut_at hyphen text
  low ← trimmed_number cut.0
  high ← trimmed_number cut.1
  Some (low, high)

-- the memory that a word names
unfoldable pub space_of : List ℕ → Option Space
space_of word =
    if bytes_eq word (codes "DATA") then Some space.Ram
    else if bytes_eq word (codes "XDATA") then Some space.Xram
    else None

-- the addresses are a range of the memory, with at most 65,535 bytes
abbrev pub is_range : Space → ℕ → ℕ → Bool
is_range space.Ram low high = nat_le low high && nat_le high 0xFF
is_range space.Xram low high = nat_le low high && (nat_le high 0xFFFF && nat_lt (high - low) 65535)
is_range space.Code low high = false

-- the same as a fact
abbrev pub IsRange : Space → ℕ → ℕ → Type 0
IsRange space.Ram low high = (low ≤ high) × (high ≤ 0xFF)
IsRange space.Xram low high = (low ≤ high) × (high ≤ 0xFFFF) × (high - low < 65535)
IsRange space.Code low high = ⊥

-- the reserve of these addresses, where they are a range
abbrev pub reserve_of : Space → ℕ × ℕ → Option Control
reserve_of memory bounds = if is_range memory bounds.0 bounds.1 then Some (Reserve memory bounds.0 bounds.1) else None

-- the text in parentheses, from after the opening one; only blanks follow the closing one
abbrev pub until_closing : List ℕ → Option (List ℕ)
until_closing text = cut_at close_parenthesis text >>= (λ cut. if list_all is_blank cut.1 then Some cut.0 else None)

-- the memory of a reserve, and the text in its parentheses
abbrev pub reserved_memory : List ℕ → Option (Space × List ℕ)
reserved_memory text = do
  cut ← cut_at open_parenthesis text
  word ← word_in cut.0
  memory ← space_of word
  inside ← until_closing cut.1
  Some (memory, inside)

-- DATA(lo-hi) or XDATA(lo-hi)
abbrev pub reserve : List ℕ → Option Control
reserve text = do
  memory ← reserved_memory text
  bounds ← bounds_of memory.1
  reserve_of memory.0 bounds

-- The lexeme at the beginning of the rest of a line (the assembler's rules of tokens).
use Rattle.std.specs.Prelude.{ℕ, ◌+◌, ◌≤◌, ◌<◌, ◌||◌, ◌==◌, nat_lt, if◌then◌else◌, List, [], ◌∷◌, take, drop, Option}
use Rattle.std.specs.Prelude.{Some, None, option_map, slice_index}
use Rattle.std.specs.Char.{is_ascii_digit, is_ascii_alphanumeric}
use Rattle.std.specs.List.{prefix_len}
use Rattle.m51_lex.specs.declared.lexeme.Lexeme.{Lexeme}
use Rattle.m51_lex.specs.declared.lexeme.Lexeme.TheVariants.{Blank, Comment, Token, Fault}
use Rattle.m51_lex.specs.declared.token.What.TheVariants.{Name, Number, Text, Sign}
use Rattle.m51_lex.specs.declared.fault.TheConstants.{BAD_CHARACTER, UNCLOSED_TEXT, BAD_NUMBER, LONG_NAME}
use Rattle.m51_lex.specs.Characters.{space, tab, quote, semicolon, is_name_byte, is_sign}
use Rattle.m51_lex.specs.Number.{number_of}

-- How many bytes of a text follow its first quote, up to the quote that closes it. Two quotes inside mean one.
abbrev pub text_len : List ℕ → Option ℕ
text_len [] = None
text_len (c ∷ []) = if c == quote then Some 1 else None
text_len (c ∷ d ∷ more) =
    if c == quote then (if d == quote then option_map (λ n. 2 + n) (text_len more) else Some 1)
    else option_map (λ n. 1 + n) (text_len (d ∷ more))

abbrev pub number_or_fault : ℕ → Option ℕ → Lexeme
number_or_fault len None = Fault BAD_NUMBER
number_or_fault len (Some n) = Token (Number n) len

-- a number: the longest run of letters and digits
abbrev pub number_lexeme : List ℕ → Lexeme
number_lexeme rest = let len = prefix_len is_ascii_alphanumeric rest in number_or_fault len (number_of (take len rest))

-- a name: the longest run of bytes of a name, which are at most 31
abbrev pub name_lexeme : List ℕ → Lexeme
name_lexeme rest = let len = prefix_len is_name_byte rest in if nat_lt 31 len then Fault LONG_NAME else Token Name len

abbrev pub text_or_fault : Option ℕ → Lexeme
text_or_fault None = Fault UNCLOSED_TEXT
text_or_fault (Some n) = Token Text (1 + n)

-- a text: a quote, and what follows it up to the quote that closes it
abbrev pub text_lexeme : List ℕ → Lexeme
text_lexeme rest = text_or_fault (text_len (drop 1 rest))

-- the lexeme at the beginning, by its first byte
unfoldable pub lexeme_of : List ℕ → Lexeme
lexeme_of rest =
    let first = slice_index rest 0 in
    if first == space || first == tab then Blank
    else if first == semicolon then Comment
    else if is_ascii_digit first then number_lexeme rest
    else if is_name_byte first then name_lexeme rest
    else if first == quote then text_lexeme rest
    else if is_sign first then Token (Sign first) 1
    else Fault BAD_CHARACTER

-- a token has at least one byte, and no more than there are
abbrev pub FitsLength : Lexeme → ℕ → Type 0
FitsLength (Token what len) most = (0 < len) × (len ≤ most)
FitsLength _ most = Unit {0}

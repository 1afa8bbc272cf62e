-- What a token is in an expression (the assembler's rules of words, texts and signs).
use Rattle.std.specs.Prelude.{ℕ, ◌-◌, ◌==◌, if◌then◌else◌, List, [], ◌∷◌, length, Option, Some, None}
use Rattle.std.specs.Prelude.{codes, slice_range, max}
use Rattle.std.specs.Option.{option_or}
use Rattle.std.specs.Str.{bytes_eq}
use Rattle.m51_cells.specs.Name.{name_of}
use Rattle.m51_lex.specs.Characters.{quote}
use Rattle.m51_lex.specs.declared.token.What.{What}
use Rattle.m51_lex.specs.declared.token.What.TheVariants as what
use Rattle.m51_lex.specs.declared.token.Token.{Token}
use Rattle.m51_expr.specs.declared.symbol.Symbol.{Symbol}
use Rattle.m51_expr.specs.declared.symbol.Symbol.TheVariants.{Number, Name, Word, Text, Here, Open, Close, Plus, Minus}
use Rattle.m51_expr.specs.declared.symbol.Symbol.TheVariants.{Prefix, Infix, Comma, Colon, Hash, At, Other}
use Rattle.m51_expr.specs.declared.tree.Unary.TheVariants as unary
use Rattle.m51_expr.specs.declared.tree.Binary.TheVariants as binary
use Rattle.m51_expr.specs.Words.{is_language_word}

-- The characters between the quotes of a text. Two quotes mean one.
abbrev pub characters : List ℕ → List ℕ
characters [] = []
characters (c ∷ []) = c ∷ []
characters (c ∷ d ∷ more) = if c == quote then c ∷ characters more else c ∷ characters (d ∷ more)

-- what is between the quotes of a text
abbrev pub between_quotes : List ℕ → List ℕ
between_quotes text = slice_range text 1 (max (length text) 2 - 1)

-- what a sign is, by its character, which is written after it; no other character is a sign
abbrev pub sign_symbol : ℕ → Symbol
sign_symbol sign =
    if sign == 0x24 then Here  -- $
    else if sign == 0x28 then Open  -- (
    else if sign == 0x29 then Close  -- )
    else if sign == 0x2B then Plus  -- +
    else if sign == 0x2D then Minus  -- -
    else if sign == 0x2A then Infix binary.Mul  -- *
    else if sign == 0x2F then Infix binary.Div  -- /
    else if sign == 0x2E then Infix binary.Dot  -- .
    else if sign == 0x2C then Comma  -- ,
    else if sign == 0x3A then Colon  -- :
    else if sign == 0x23 then Hash  -- #
    else if sign == 0x40 then At  -- @
    else Other

-- the operator before an operand that a word is
unfoldable pub prefix_word : List ℕ → Option Symbol
prefix_word word =
    if bytes_eq word (codes "HIGH") then Some (Prefix unary.High)
    else if bytes_eq word (codes "LOW") then Some (Prefix unary.Low)
    else if bytes_eq word (codes "NOT") then Some (Prefix unary.Not)
    else None

-- the relation that a word is
unfoldable pub relation_word : List ℕ → Option Symbol
relation_word word =
    if bytes_eq word (codes "EQ") then Some (Infix binary.Eq)
    else if bytes_eq word (codes "NE") then Some (Infix binary.Ne)
    else if bytes_eq word (codes "LT") then Some (Infix binary.Lt)
    else if bytes_eq word (codes "LE") then Some (Infix binary.Le)
    else if bytes_eq word (codes "GT") then Some (Infix binary.Gt)
    else if bytes_eq word (codes "GE") then Some (Infix binary.Ge)
    else None

-- the operator on numbers or bits, between two operands, that a word is
unfoldable pub arithmetic_word : List ℕ → Option Symbol
arithmetic_word word =
    if bytes_eq word (codes "MOD") then Some (Infix binary.Rem)
    else if bytes_eq word (codes "SHL") then Some (Infix binary.Shl)
    else if bytes_eq word (codes "SHR") then Some (Infix binary.Shr)
    else if bytes_eq word (codes "AND") then Some (Infix binary.And)
    else if bytes_eq word (codes "OR") then Some (Infix binary.Or)
    else if bytes_eq word (codes "XOR") then Some (Infix binary.Xor)
    else None

-- the operator that a word is
unfoldable pub operator_of : List ℕ → Option Symbol
operator_of word = option_or (prefix_word word) (option_or (relation_word word) (arithmetic_word word))

-- an operator, or else a word of the language or a name
abbrev pub operator_or_word : List ℕ → Option Symbol → Symbol
operator_or_word word (Some symbol) = symbol
operator_or_word word None = if is_language_word word then Word word else Name word

-- an operator, a word of the language or a name
abbrev pub word_symbol : List ℕ → Symbol
word_symbol word = operator_or_word word (operator_of word)

-- a word, where its bytes are a name; never applied to others, since a name has at most 31 bytes
abbrev pub word_or_other : Option (List ℕ) → Symbol
word_or_other (Some word) = word_symbol word
word_or_other None = Other

-- what these bytes are, as a token of the kind
abbrev pub symbol_by : What → List ℕ → Symbol
symbol_by what.Name text = word_or_other (name_of text)
symbol_by (what.Number n) text = Number n
symbol_by what.Text text = Text (characters (between_quotes text))
symbol_by (what.Sign sign) text = sign_symbol sign

-- what a token of the line is
unfoldable pub symbol_of : List ℕ → Token → Symbol
symbol_of line t = symbol_by t.what (slice_range line t.from t.to)

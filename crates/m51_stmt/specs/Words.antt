-- The words of a line, and what begins an operand or an expression (the assembler's rules of statements).
use Rattle.std.specs.Prelude.{ℕ, Bool, true, false, not, if◌then◌else◌, List, [], ◌∷◌, codes, Option, Some, None}
use Rattle.std.specs.Prelude.{is_some}
use Rattle.std.specs.Str.{bytes_eq}
use Rattle.m51_expr.specs.declared.tree.Binary.{Binary}
use Rattle.m51_expr.specs.declared.tree.Binary.TheVariants as binary
use Rattle.m51_expr.specs.declared.symbol.Symbol.{Symbol}
use Rattle.m51_expr.specs.declared.symbol.Symbol.TheVariants as symbol
use Rattle.m51_expr.specs.Words.{is_word_among, is_reserved}
use Rattle.m51_expr.specs.Ranks.{text_value}

-- the name, or the word of the language, that a symbol is
abbrev pub word_of : Symbol → Option (List ℕ)
word_of (symbol.Word word) = Some word
word_of (symbol.Name name) = Some name
word_of s = None

-- an operator between two operands that is a word
abbrev pub is_word_operator : Binary → Bool
is_word_operator binary.Mul = false
is_word_operator binary.Div = false
is_word_operator binary.Add = false
is_word_operator binary.Sub = false
is_word_operator binary.Dot = false
is_word_operator op = true

-- a word: a name, a word of the language, or an operator that is one
abbrev pub is_word : Symbol → Bool
is_word (symbol.Word word) = true
is_word (symbol.Name name) = true
is_word (symbol.Prefix op) = true
is_word (symbol.Infix op) = is_word_operator op
is_word s = false

-- a word that nothing can define
abbrev pub is_reserved_word : Symbol → Bool
is_reserved_word (symbol.Name name) = is_reserved name
is_reserved_word s = is_word s

-- a comma
abbrev pub is_comma : Symbol → Bool
is_comma symbol.Comma = true
is_comma s = false

-- a text of no character, or of more than two, which is no number
abbrev pub is_text : Symbol → Bool
is_text (symbol.Text characters) = not (is_some (text_value characters))
is_text s = false

-- an operator between two operands
abbrev pub is_operator : Symbol → Bool
is_operator symbol.Plus = true
is_operator symbol.Minus = true
is_operator (symbol.Infix op) = true
is_operator s = false

-- the number of a register R0 to R7
unfoldable pub register_number : List ℕ → Option ℕ
register_number word =
    if bytes_eq word (codes "R0") then Some 0
    else if bytes_eq word (codes "R1") then Some 1
    else if bytes_eq word (codes "R2") then Some 2
    else if bytes_eq word (codes "R3") then Some 3
    else if bytes_eq word (codes "R4") then Some 4
    else if bytes_eq word (codes "R5") then Some 5
    else if bytes_eq word (codes "R6") then Some 6
    else if bytes_eq word (codes "R7") then Some 7
    else None

-- a register that is an operand by itself
unfoldable pub is_register : List ℕ → Bool
is_register word =
    is_word_among word (codes "A" ∷ codes "AB" ∷ codes "C" ∷ codes "DPTR" ∷ codes "R0" ∷ codes "R1" ∷ codes "R2" ∷
    codes "R3" ∷ codes "R4" ∷ codes "R5" ∷ codes "R6" ∷ codes "R7" ∷ [])

-- an expression may begin with it
abbrev pub begins_expression : Symbol → Bool
begins_expression (symbol.Number n) = true
begins_expression (symbol.Text characters) = is_some (text_value characters)
begins_expression (symbol.Name name) = true
begins_expression symbol.Here = true
begins_expression symbol.Open = true
begins_expression symbol.Plus = true
begins_expression symbol.Minus = true
begins_expression (symbol.Prefix op) = true
begins_expression s = false

-- an operand may begin with it
abbrev pub begins_operand : Symbol → Bool
begins_operand symbol.Hash = true
begins_operand symbol.At = true
begins_operand (symbol.Infix binary.Div) = true
begins_operand (symbol.Word word) = is_register word
begins_operand s = begins_expression s

-- the first symbol exists and satisfies the test
abbrev pub first_is : (Symbol → Bool) → List Symbol → Bool
first_is test [] = false
first_is test (s ∷ rest) = test s

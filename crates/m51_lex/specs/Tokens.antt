-- The tokens of a line, and its faults (the assembler's rules of lines).
use Rattle.std.specs.Prelude.{ℕ, zero, suc, ◌+◌, ◌-◌, ◌≤◌, ◌<◌, nat_lt, if◌then◌else◌, List, [], ◌∷◌, ◌++◌, length}
use Rattle.std.specs.Prelude.{Result, Ok, Err}
use Rattle.m51_lex.specs.declared.lexeme.Lexeme.{Lexeme}
use Rattle.m51_lex.specs.declared.lexeme.Lexeme.TheVariants as lexeme
use Rattle.m51_lex.specs.declared.token.Token.{Token}
use Rattle.m51_lex.specs.declared.fault.TheConstants.{LONG_LINE}
use Rattle.m51_lex.specs.Lexeme.{lexeme_of}

-- tokens, or the number of a fault
abbrev pub Cut : Type 0
Cut = Result (List Token) ℕ

-- tokens before those that follow, or the fault that follows
abbrev pub put_front : List Token → Cut → Cut
put_front front (Ok ts) = Ok (front ++ ts)
put_front front (Err k) = Err k

-- what a lexeme at this index gives; `rest n` is what follows n bytes further on
abbrev pub after_lexeme : ℕ → Lexeme → (ℕ → Cut) → Cut
after_lexeme at lexeme.Blank rest = rest 0
after_lexeme at lexeme.Comment rest = Ok []
after_lexeme at (lexeme.Token what len) rest =
    put_front (record { what = what; from = at; to = at + len } ∷ []) (rest (len - 1))
after_lexeme at (lexeme.Fault k) rest = Err k

-- The tokens of the rest of a line, which begins at this index, or the first fault in it. The first bytes of the rest
-- are passed over, as many as belong to the token before.
abbrev pub tokens_at : ℕ → ℕ → List ℕ → Cut
tokens_at passed at [] = Ok []
tokens_at (suc passed) at (b ∷ rest) = tokens_at passed (at + 1) rest
tokens_at zero at (b ∷ rest) = after_lexeme at (lexeme_of (b ∷ rest)) (λ passed. tokens_at passed (at + 1) rest)

-- the tokens of a line, or the number of its fault: that of a long line, or else the leftmost one
abbrev pub tokens_of : List ℕ → Cut
tokens_of line = if nat_lt 255 (length line) then Err LONG_LINE else tokens_at 0 0 line

-- Tokens are slices in order, none of them empty, from one index of the line up to another.
abbrev pub AreSlices : ℕ → ℕ → List Token → Type 0
AreSlices from to [] = from ≤ to
AreSlices from to (t ∷ ts) = (from ≤ t.from) × (t.from < t.to) × AreSlices t.to to ts

-- a token of a line of `len` bytes
abbrev pub IsWithin : ℕ → Token → Type 0
IsWithin len t = (t.from < t.to) × (t.to ≤ len)

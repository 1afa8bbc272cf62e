-- The cut of a line into words, with blanks between them or none.
use Rattle.m51_stmt.proofs
use proofs.Common.{◌≡◌, ℕ, length-append, ◌+◌, ◌-◌, ◌<◌, List, [], ◌∷◌, ◌++◌, length, drop, map, Ok, Some, refl, sym}
use proofs.Common.{ap, ◌∙◌, append_assoc, arith, slice_range, drop-append_seam, take-append_seam, space, Token, What}
use proofs.Common.{Cut, put_front, after_lexeme, tokens_at, Symbol, symbol_by, statement, token_line, StmtTree}
use Rattle.m51_lex.specs.Lexeme.{lexeme_of}
use Rattle.m51_lex.proofs.Cuts.{from_front}
use Rattle.m51_expr.specs.Symbol.{symbol_of}

-- a word of a line: what it is as a token, and its bytes
pub record Word : Type 0 where
  pub what : What
  pub text : List ℕ

-- the token of a word at an index
abbrev pub token_at : ℕ → Word → Token
token_at at w = record { what = w.what; from = at; to = at + length w.text }

-- what a word is in a line
abbrev pub symbol : Word → Symbol
symbol w = symbol_by w.what w.text

-- the word is cut as a token of its own before these bytes
pub record Stands (w : Word) (rest : List ℕ) : Type 0 where
  pub some : 0 < length w.text
  pub front : (at : ℕ) (go : ℕ → Cut)
      → after_lexeme at (lexeme_of (w.text ++ rest)) go ≡ put_front (token_at at w ∷ []) (go (length w.text - 1))

-- the line is cut into words of these symbols
pub record IsCutInto (line : List ℕ) (symbols : List Symbol) : Type 0 where
  pub tokens : ℕ → List Token
  pub cut : (at : ℕ) → tokens_at 0 at line ≡ Ok (tokens at)
  pub words : (before : List ℕ) → map (symbol_of (before ++ line)) (tokens (length before)) ≡ symbols

-- an empty line
pub no_words : IsCutInto [] []
no_words = record { tokens = λ at. []; cut = λ at. refl; words = λ before. refl }

later : (before text : List ℕ) {rest : List ℕ} {symbols : List Symbol} (c : IsCutInto rest symbols)
    → map (symbol_of (before ++ (text ++ rest))) (c.tokens (length before + length text)) ≡ symbols
later before text {rest} c =
    let line = sym (append_assoc before text rest) in
    let at = sym (length-append before text) in
    (λ i. map (symbol_of (line i)) (c.tokens (at i))) ∙ c.words (before ++ text)

-- a blank before a line
pub after_blank : {rest : List ℕ} {symbols : List Symbol} → IsCutInto rest symbols → IsCutInto (space ∷ rest) symbols
unfolding lexeme_of
after_blank c = record {
  tokens = λ at. c.tokens (at + 1);
  cut = λ at. c.cut (at + 1);
  words = λ before. later before (space ∷ []) c;
}

one_token : (w : Word) (rest : List ℕ) (at : ℕ) → Stands w rest
    → tokens_at 0 at (w.text ++ rest) ≡ put_front (token_at at w ∷ []) (tokens_at 0 (at + length w.text) rest)
one_token w rest at is =
    let l = w.text ++ rest in
    let n = length w.text in
    let same : 1 + (n - 1) ≡ n = omega (arith, is.some) in
    let after : at + 1 + (n - 1) ≡ at + n = omega (arith, is.some) in
    from_front at l (simp length-append (omega (arith, is.some)))
    ∙ is.front at (λ k. tokens_at 0 (at + 1 + k) (drop (1 + k) l))
    ∙ (λ i. put_front (token_at at w ∷ []) (tokens_at 0 (after i) (drop (same i) l)))
    ∙ ap (λ r. put_front (token_at at w ∷ []) (tokens_at 0 (at + n) r)) (drop-append_seam w.text rest)

-- the bytes at the index of a word are the word
word_within : (before text rest : List ℕ)
    → slice_range (before ++ (text ++ rest)) (length before) (length before + length text) ≡ text
word_within before text rest =
    let n : length before + length text - length before ≡ length text = omega arith in
    rw (drop-append_seam before (text ++ rest), n) (take-append_seam text rest)

-- a word before a line
pub after_word : {w : Word} {rest : List ℕ} {symbols : List Symbol} → Stands w rest → IsCutInto rest symbols
    → IsCutInto (w.text ++ rest) (symbol w ∷ symbols)
unfolding symbol_of
after_word {w} {rest} is c = record {
  tokens = λ at. token_at at w ∷ c.tokens (at + length w.text);
  cut = λ at. rw (one_token w rest at is, c.cut (at + length w.text)) refl;
  words = λ before.
      let first = word_within before w.text rest in
      let more = later before w.text c in
      (λ i. symbol_by w.what (first i) ∷ more i);
}

-- a line of these words says what their symbols do
pub words_read : {line : List ℕ} {symbols : List Symbol} (s : StmtTree) → IsCutInto line symbols
    → statement symbols ≡ Some s → token_line line ≡ Ok s
words_read {line} {symbols} s c reads =
    rw (c.cut 0, c.words [], reads) refl

-- words, with a blank after each
abbrev pub laid : List Word → List ℕ
laid [] = []
laid (w ∷ ws) = w.text ++ space ∷ laid ws

-- the word is cut as a token of its own before a blank
abbrev pub IsCut : Word → Type 0
IsCut w = (rest : List ℕ) → Stands w (space ∷ rest)

abbrev pub AreCut : List Word → Type 0
AreCut [] = Unit {0}
AreCut (w ∷ ws) = IsCut w × AreCut ws

-- words with a blank after each are cut into these words
pub laid_cut : (ws : List Word) → AreCut ws → IsCutInto (laid ws) (map symbol ws)
laid_cut [] h = no_words
laid_cut (w ∷ ws) h = after_word (h.0 (laid ws)) (after_blank (laid_cut ws h.1))

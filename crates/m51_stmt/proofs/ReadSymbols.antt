-- What the symbols and the expressions of a line of bytes can be.
use Rattle.m51_stmt.proofs
use proofs.Common.{◌≡◌, ℕ, zero, suc, ◌+◌, ◌-◌, ◌<◌, ◌==◌, Bool, true, false, cond, max, map, List, [], ◌∷◌, length}
use proofs.Common.{take, drop, Option, Some, None, refl, arith, slice_get, slice_index, is_ascii_digit}
use proofs.Common.{is_ascii_alphanumeric, prefix_len, slice_range, name_of, is_name, Token, What, quote, space, is_sign}
use proofs.Common.{name_lexeme, Cut, put_front, after_lexeme, tokens_at, Symbol, characters, between_quotes}
use proofs.Common.{word_symbol, word_or_other, symbol_by, Tree, leaf_of, line_of_symbols, Writes, Leaf, Parens, Before}
use proofs.Common.{Between, Tighter, IsByte}
use Rattle.std.proofs.Common.{◌||◌}
use Rattle.std.specs.Char.{to_ascii_uppercase}
use Rattle.m51_cells.proofs.NameLaws.{upper_again, name_upper}
use Rattle.m51_lex.specs.Characters.{tab, semicolon}
use Rattle.m51_lex.specs.Number.{number_of}
use Rattle.m51_lex.specs.Lexeme.{lexeme_of, number_or_fault, text_or_fault}
use Rattle.m51_expr.specs.Symbol.{sign_symbol, operator_of, prefix_word, relation_word, arithmetic_word}
use Rattle.m51_expr.specs.Symbol.{operator_or_word, symbol_of}
use proofs.PrintedTrees.{IsLeafName, IsTree}
use proofs.ListWords.{Each}
use proofs.IfRead.{IfSome, some_is, none_is, some_or, IfRead, ok_is, err_is, read_cond, flip}
use Rattle.m51_lex.specs.declared.token.What.TheVariants as what
use Rattle.m51_expr.specs.declared.symbol.Symbol.TheVariants as symbols

-- a token whose number has 16 bits
abbrev pub HasNumber : What → Type 0
HasNumber (what.Number n) = n < 65536
HasNumber other = Unit {0}

abbrev pub IsToken : Token → Type 0
IsToken t = HasNumber t.what

-- a line of bytes, with its tokens
pub record IsTokenLine (line : List ℕ) (tokens : List Token) : Type 0 where
  pub bytes : Each IsByte line
  pub numbers : Each IsToken tokens

-- names
kept : {A : Type 0} (b : Bool) (x y : A) → cond b (Some x) None ≡ Some y → x ≡ y
kept b x y h = grind arith

-- a name that a text writes is written by itself
pub written_again : (text word : List ℕ) → name_of text ≡ Some word → name_of word ≡ Some word
written_again text word h =
    rw (← kept (is_name text) (map to_ascii_uppercase text) word h)
    (grind (arith, name_upper, upper_again))

-- a word of the language
pub record IsLanguageWord (word : List ℕ) : Type 0 where
  pub written : name_of word ≡ Some word
  pub symbol : word_symbol word ≡ symbols.Word word

-- a symbol of a line of bytes
abbrev pub IsGood : Symbol → Type 0
IsGood (symbols.Number n) = n < 65536
IsGood (symbols.Text cs) = Each IsByte cs
IsGood (symbols.Name name) = IsLeafName name
IsGood (symbols.Word word) = IsLanguageWord word
IsGood s = Unit {0}

prefix_good : (word : List ℕ) → IfSome (prefix_word word) IsGood
unfolding prefix_word
prefix_good word = record { holds = λ s is. grind arith }

relation_good : (word : List ℕ) → IfSome (relation_word word) IsGood
unfolding relation_word
relation_good word = record { holds = λ s is. grind arith }

arithmetic_good : (word : List ℕ) → IfSome (arithmetic_word word) IsGood
unfolding arithmetic_word
arithmetic_good word = record { holds = λ s is. grind arith }

operator_good : (word : List ℕ) → IfSome (operator_of word) IsGood
unfolding operator_of
operator_good word =
    some_or (prefix_word word) _ (prefix_good word)
    (some_or (relation_word word) (arithmetic_word word) (relation_good word) (arithmetic_good word))

sign_good : (c : ℕ) → IsGood (sign_symbol c)
sign_good c = grind arith

word_good : (word : List ℕ) (o : Option Symbol) → name_of word ≡ Some word → operator_of word ≡ o → IfSome o IsGood
    → IsGood (operator_or_word word o)
word_good word o again is h = grind arith

name_good : (text : List ℕ) (o : Option (List ℕ)) → name_of text ≡ o → IsGood (word_or_other o)
name_good text None is = tt
name_good text (Some word) is = word_good word (operator_of word) (written_again text word is) refl (operator_good word)

-- texts
characters_cond : (b : Bool) (c : ℕ) (x y : List ℕ) → IsByte c → Each IsByte x → Each IsByte y
    → Each IsByte (cond b (c ∷ x) (c ∷ y))
characters_cond b c x y is h k = grind arith

characters_good : (text : List ℕ) → Each IsByte text → Each IsByte (characters text)
characters_good [] h = tt
characters_good (c ∷ []) h = h
characters_good (c ∷ d ∷ more) h =
    characters_cond (c == quote) c (characters more) (characters (d ∷ more)) h.0 (characters_good more h.1.1)
    (characters_good (d ∷ more) h.1)

each_take : {A : Type 0} (P : A → Type 0) (n : ℕ) (xs : List A) → Each P xs → Each P (take n xs)
each_take P (suc n) (x ∷ xs) h = (h.0, each_take P n xs h.1)
each_take P n xs h = grind arith

each_drop : {A : Type 0} (P : A → Type 0) (n : ℕ) (xs : List A) → Each P xs → Each P (drop n xs)
each_drop P (suc n) (x ∷ xs) h = each_drop P n xs h.1
each_drop P n xs h = grind arith

each_range : {A : Type 0} (P : A → Type 0) (xs : List A) (a b : ℕ) → Each P xs → Each P (slice_range xs a b)
each_range P xs a b h = each_take P (b - a) (drop a xs) (each_drop P a xs h)

by_good : (w : What) (text : List ℕ) → HasNumber w → Each IsByte text → IsGood (symbol_by w text)
by_good what.Name text is h = name_good text (name_of text) refl
by_good (what.Number n) text is h = is
by_good what.Text text is h =
    characters_good (between_quotes text) (each_range IsByte text 1 (max (length text) 2 - 1) h)
by_good (what.Sign c) text is h = sign_good c

pub symbols_good : (line : List ℕ) (tokens : List Token) → Each IsByte line → Each IsToken tokens
    → Each IsGood (map (symbol_of line) tokens)
unfolding symbol_of
symbols_good line [] bytes h = tt
symbols_good line (t ∷ tokens) bytes h = (
  by_good t.what (slice_range line t.from t.to) h.0 (each_range IsByte line t.from t.to bytes),
  symbols_good line tokens bytes h.1,
)

each_get : {A : Type 0} (P : A → Type 0) (xs : List A) (i : ℕ) → Each P xs → IfSome (slice_get xs i) P
each_get P [] i h = none_is
each_get P (x ∷ xs) zero h = some_is h.0
each_get P (x ∷ xs) (suc i) h = each_get P xs i h.1

leaf_good : (o : Option Symbol) → IfSome o IsGood → IfSome (leaf_of o) IsTree
leaf_good o h = grind (arith, none_is, some_is)

pub tree_good : (l : List Symbol) {rank from : ℕ} {e : Tree} {to : ℕ} → Each IsGood l
    → Writes (line_of_symbols l) rank from e to → IsTree e
tree_good l {rank} {from} h (Leaf {e = e} is leaf end) =
    (leaf_good (slice_get l from) (each_get IsGood l from h)).holds e leaf
tree_good l h (Parens is open' inner close end) = tree_good l h inner
tree_good l h (Before is inner) = tree_good l h inner
tree_good l h (Between left' is right') = (tree_good l h left', tree_good l h right')
tree_good l h (Tighter low inner) = tree_good l h inner

-- the tokens of a line have numbers of 16 bits
front_good : (t : Token) (r : Cut) → HasNumber t.what → IfRead r (Each IsToken)
    → IfRead (put_front (t ∷ []) r) (Each IsToken)
front_good t r is h = grind (arith, ok_is)

number_fits : (run : List ℕ) → IfSome (number_of run) (λ n. n < 65536)
unfolding number_of
number_fits run = grind arith

module _ (at : ℕ) (go : ℕ → Cut) (more : (n : ℕ) → IfRead (go n) (Each IsToken)) where
  number_tokens : (len : ℕ) (o : Option ℕ) → IfSome o (λ n. n < 65536)
      → IfRead (after_lexeme at (number_or_fault len o) go) (Each IsToken)
  number_tokens len o h = grind (arith, err_is)

  text_tokens : (o : Option ℕ) → IfRead (after_lexeme at (text_or_fault o) go) (Each IsToken)
  text_tokens o = grind (arith, err_is)

  name_tokens : (rest : List ℕ) → IfRead (after_lexeme at (name_lexeme rest) go) (Each IsToken)
  name_tokens rest = grind arith

  choose : (b : Bool) (x y : _) → (b ≡ true → IfRead (after_lexeme at x go) (Each IsToken))
      → (b ≡ false → IfRead (after_lexeme at y go) (Each IsToken))
      → IfRead (after_lexeme at (cond b x y) go) (Each IsToken)
  choose = read_cond (flip (after_lexeme at) go) (Each IsToken)

  lexeme_good : (rest : List ℕ) → IfRead (after_lexeme at (lexeme_of rest) go) (Each IsToken)
  unfolding lexeme_of
  lexeme_good rest =
      let first = slice_index rest 0 in
      let len = prefix_len is_ascii_alphanumeric rest in
      choose (first == space || first == tab) _ _ (λ _. more 0) (λ _.
      choose (first == semicolon) _ _ (λ _. ok_is tt) (λ _.
      choose (is_ascii_digit first) _ _
      (λ _. number_tokens len (number_of (take len rest)) (number_fits (take len rest))) (grind (
        arith,
        choose,
        name_tokens,
        text_tokens,
        is_sign,
        front_good,
        go,
        more,
        err_is,
      ))))

pub tokens_good : (l : List ℕ) (passed at : ℕ) → IfRead (tokens_at passed at l) (Each IsToken)
tokens_good [] passed at = ok_is tt
tokens_good (b ∷ rest) (suc passed) at = tokens_good rest passed (at + 1)
tokens_good (b ∷ rest) zero at =
    lexeme_good at (λ passed. tokens_at passed (at + 1) rest) (λ n. tokens_good rest n (at + 1)) (b ∷ rest)

-- Names, numbers, texts and signs are cut as tokens of their own.
use Rattle.m51_stmt.proofs
use proofs.Common.{◌≡◌, ℕ, ◌+◌, ◌<◌, ◌==◌, cond, nat_lt, Bool, true, false, List, [], ◌∷◌, ◌++◌, length, length-append}
use proofs.Common.{Some, refl, arith, append_assoc, slice_index, is_ascii_digit, is_ascii_alphanumeric, list_all}
use proofs.Common.{prefix_len, and_parts, common_steps, take-append_seam, name_of, is_name, space, quote, is_sign}
use proofs.Common.{name_lexeme, number_text, doubled}
use Rattle.std.proofs.Common.{rules}
use Rattle.std.proofs.lemmas.Bool.{or_parts}
use Rattle.m51_cells.proofs.NameLaws.{name_parts, named_is_name}
use Rattle.m51_cells.proofs.Passing.{weaker}
use Rattle.m51_lex.specs.Characters.{is_name_byte}
use Rattle.m51_lex.specs.Number.{number_of}
use Rattle.m51_lex.specs.Lexeme.{lexeme_of, text_len}
use proofs.LineCuts.{Word, Stands, IsCut}
use Rattle.m51_cells.specs.Name as cells
use Rattle.m51_lex.specs.declared.token.What.TheVariants as what

-- these bytes continue no name and no number
abbrev pub Ends : List ℕ → Type 0
Ends rest = is_name_byte (slice_index rest 0) ≡ false

-- a run ends at the first byte that does not belong to it
pub run_ends : (p : ℕ → Bool) (word rest : List ℕ) → list_all p word ≡ true → p (slice_index rest 0) ≡ false
    → prefix_len p (word ++ rest) ≡ length word
run_ends p [] [] all stop = refl
run_ends p [] (c ∷ rest) all stop = grind (arith, common_steps, stop)
run_ends p (w ∷ word) rest all stop = grind (arith, run_ends p word rest (and_parts (p w) (list_all p word) all).1 stop)

-- names
abbrev pub name_word : List ℕ → Word
name_word text = record { what = what.Name; text = text }

of_name : (b : ℕ) → cells.is_name_byte b ≡ true → is_name_byte b ≡ true
of_name b h = grind (arith, common_steps, h)

-- what begins with a byte of a name, and no digit, is a name
name_first : (c : ℕ) (rest : List ℕ) → is_ascii_digit c ≡ false → is_name_byte c ≡ true
    → lexeme_of (c ∷ rest) ≡ name_lexeme (c ∷ rest)
unfolding lexeme_of
name_first c rest digit is = grind (arith, common_steps)

named : (text rest : List ℕ) → is_name text ≡ true → Ends rest → Stands (name_word text) rest
named [] rest h ends = absurd (cc h)
named (c ∷ more) rest h ends =
    let text = c ∷ more in
    let parts = name_parts c more h in
    let all = weaker cells.is_name_byte is_name_byte of_name text parts.bytes in
    let first = (and_parts (is_name_byte c) (list_all is_name_byte more) all).0 in
    let low : nat_lt 31 (length text) ≡ false = grind (arith, common_steps, parts.most) in
    record {
      some = omega arith;
      front = λ at go.
          rw (name_first c (more ++ rest) parts.digit first, run_ends is_name_byte text rest all ends, low) refl;
    }

-- a written name
pub name_stands : {text rest : List ℕ} → name_of text ≡ Some text → Ends rest → Stands (name_word text) rest
name_stands {text} {rest} h ends = named text rest (named_is_name text text h) ends

pub name_cut : {text : List ℕ} → name_of text ≡ Some text → IsCut (name_word text)
name_cut h = λ rest. name_stands h refl

-- numbers
abbrev pub number_word : ℕ → Word
number_word n = record { what = what.Number n; text = number_text n }

-- a run that writes a number, before what ends it
pub run_stands : {more rest : List ℕ} {n : ℕ} → list_all is_ascii_alphanumeric (0x30 ∷ more) ≡ true
    → number_of (0x30 ∷ more) ≡ Some n → Ends rest → Stands (record { what = what.Number n; text = 0x30 ∷ more }) rest
unfolding lexeme_of
run_stands {more} {rest} {n} all is ends =
    let text = 0x30 ∷ more in
    let no_run = (or_parts (is_ascii_alphanumeric (slice_index rest 0)) _ ends).0 in
    record {
      some = omega arith;
      front = λ at go.
          rw (run_ends is_ascii_alphanumeric text rest all no_run, take-append_seam text rest, is) refl;
    }

word_run : (n : ℕ) → n < 65536 → list_all is_ascii_alphanumeric (number_text n) ≡ true
word_run n h = grind (arith, common_steps)

word_number : (n : ℕ) → n < 65536 → number_of (number_text n) ≡ Some n
unfolding number_of
word_number n h = grind (arith, common_steps)

-- a number of four digits
pub word_stands : {n : ℕ} {rest : List ℕ} → n < 65536 → Ends rest → Stands (number_word n) rest
word_stands {n} h ends = run_stands (word_run n h) (word_number n h) ends

pub number_cut : {n : ℕ} → n < 65536 → IsCut (number_word n)
number_cut h = λ rest. word_stands h refl

-- signs
abbrev pub sign_word : ℕ → Word
sign_word c = record { what = what.Sign c; text = c ∷ [] }

-- a sign, before whatever follows it
pub sign_stands : {c : ℕ} {rest : List ℕ} → is_sign c ≡ true → Stands (sign_word c) rest
unfolding lexeme_of
sign_stands {c} {rest} h = record { some = omega arith; front = λ at go. grind (arith, common_steps, h) }

pub sign_cut : {c : ℕ} → is_sign c ≡ true → IsCut (sign_word c)
sign_cut h = λ rest. sign_stands h

-- texts
abbrev pub text_word : List ℕ → Word
text_word characters = record { what = what.Text; text = quote ∷ doubled characters ++ quote ∷ [] }

abbrev TextEnds : List ℕ → List ℕ → Type 0
TextEnds inside rest = text_len (inside ++ quote ∷ space ∷ rest) ≡ Some (1 + length inside)

text_goes : (c : ℕ) (more rest : List ℕ) (b : Bool) → (c == quote) ≡ b → TextEnds more rest
    → TextEnds (cond b (quote ∷ quote ∷ more) (c ∷ more)) rest
text_goes c more rest b is h = grind arith

text_ends : (characters rest : List ℕ) → TextEnds (doubled characters) rest
text_ends [] rest = refl
text_ends (c ∷ more) rest = text_goes c (doubled more) rest (c == quote) refl (text_ends more rest)

pub text_cut : (characters : List ℕ) → IsCut (text_word characters)
unfolding lexeme_of
text_cut characters rest = grind (arith, length-append, append_assoc, text_ends)

-- words of each kind
pub ruleset cuts = (rules, name_cut, number_cut, sign_cut, text_cut)

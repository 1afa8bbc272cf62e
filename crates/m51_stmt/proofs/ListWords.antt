-- The words of printed lists.
use Rattle.m51_stmt.proofs
use proofs.Common.{arith, ◌≡◌, ℕ, map, List, [], ◌∷◌, ◌++◌, refl, ◌∙◌, append_assoc, append-nil, Symbol, IsList}
use Rattle.m51_stmt.specs.Grammar.{Last, Comma}
use Rattle.m51_stmt.specs.Printing.{separated}
use proofs.LineCuts.{Word, laid, AreCut, symbol}
use proofs.WordCuts.{sign_word, sign_cut}

abbrev pub comma_word : Word
comma_word = sign_word 0x2C

-- the words of a list, with commas between its parts
abbrev pub list_words : {A : Type 0} → (A → List Word → List Word) → List A → List Word
list_words words [] = []
list_words words (a ∷ []) = words a []
list_words words (a ∷ b ∷ more) = words a (comma_word ∷ list_words words (b ∷ more))

-- each of a list is so
abbrev pub Each : {A : Type 0} → (A → Type 0) → List A → Type 0
Each P [] = Unit {0}
Each P (a ∷ more) = P a × Each P more

pub list_laid : {A : Type 0} (words : A → List Word → List Word) (text : A → List ℕ)
    → ((a : A) (rest : List Word) → laid (words a rest) ≡ text a ++ laid rest) → (xs : List A)
    → laid (list_words words xs) ≡ separated text xs
list_laid words text is [] = refl
list_laid words text is (a ∷ []) = is a [] ∙ simp append-nil
list_laid words text is (a ∷ b ∷ more) =
    rw (is a (comma_word ∷ list_words words (b ∷ more)), list_laid words text is (b ∷ more)) (simp append_assoc)

pub list_cut : {A : Type 0} (P : A → Type 0) (words : A → List Word → List Word)
    → ((a : A) (rest : List Word) → P a → AreCut rest → AreCut (words a rest)) → (xs : List A) → Each P xs
    → AreCut (list_words words xs)
list_cut P words is [] h = tt
list_cut P words is (a ∷ []) h = is a [] h.0 tt
list_cut P words is (a ∷ b ∷ more) h =
    is a (comma_word ∷ list_words words (b ∷ more)) h.0 (sign_cut refl, list_cut P words is (b ∷ more) h.1)

-- a list that has a part, each of which is so
abbrev pub OneOrMore : {A : Type 0} → (A → Type 0) → List A → Type 0
OneOrMore P [] = ⊥
OneOrMore P (a ∷ more) = P a × Each P more

pub some_each : {A : Type 0} (P : A → Type 0) (xs : List A) → OneOrMore P xs → Each P xs
some_each P xs is = grind arith

-- words before any others
pub record IsPart (words : List Word → List Word) : Type 0 where
  pub before : (rest : List Word) → map symbol (words rest) ≡ map symbol (words []) ++ map symbol rest

pub one_part : (w : Word) → IsPart (λ rest. w ∷ rest)
one_part w = record { before = λ rest. refl }

pub two_parts : (g h : List Word → List Word) → IsPart g → IsPart h → IsPart (λ rest. g (h rest))
two_parts g h p q = grind (arith, append_assoc)

pub after_word : {words : List Word → List Word} (w : Word) → IsPart words → IsPart (λ rest. w ∷ words rest)
after_word {words} w p = two_parts (λ rest. w ∷ rest) words (one_part w) p

-- a printed list is one of the grammar, where each part is
pub list_said : {A : Type 0} (P : List Symbol → A → Type 0) (Q : A → Type 0) (words : A → List Word → List Word)
    → ((a : A) → IsPart (λ rest. words a rest)) → ((a : A) → Q a → P (map symbol (words a [])) a) → (xs : List A)
    → OneOrMore Q xs → IsList P (map symbol (list_words words xs)) xs
list_said P Q words part says [] is = absurd is
list_said P Q words part says (a ∷ []) is = Last (says a is.0)
list_said P Q words part says (a ∷ b ∷ more) is =
    rw ((part a).before (comma_word ∷ list_words words (b ∷ more)))
    (Comma (says a is.0) (list_said P Q words part says (b ∷ more) is.1))

-- The printed names of EXTRN read back.
use Rattle.m51_stmt.proofs
use proofs.Common.{◌≡◌, ℕ, false, map, List, [], ◌∷◌, ◌++◌, Some, None, arith, refl, sym, append_assoc, name_of, Kind}
use proofs.Common.{Symbol, is_reserved, extern_kind_of, kind_word, extern_text}
use Rattle.m51_expr.specs.Symbol.{operator_of, prefix_word, relation_word, arithmetic_word}
use Rattle.m51_expr.specs.Words.{is_language_word}
use Rattle.m51_stmt.specs.Kinds.{kind_of}
use proofs.LineCuts.{Word, laid, AreCut, symbol}
use proofs.WordCuts.{name_word, name_cut, sign_cut}
use proofs.PrintedTrees.{IsLeafName, open_word, close_word}
use proofs.ListWords.{OneOrMore, list_words}
use proofs.PrintedParts.{name_symbol}
use Rattle.m51_expr.specs.declared.symbol.Symbol.TheVariants as symbols
use Rattle.m51_stmt.specs.Grammar as grammar

-- a name that a statement may define
pub record IsFree (name : List ℕ) : Type 0 where
  pub leaf : IsLeafName name
  pub free : is_reserved name ≡ false

abbrev pub IsExtern : List ℕ × Kind → Type 0
IsExtern x = IsFree x.0

abbrev pub extern_words : List ℕ × Kind → List Word → List Word
extern_words x rest = name_word (kind_word x.1) ∷ open_word ∷ name_word x.0 ∷ close_word ∷ rest

pub kind_written : (k : Kind) → name_of (kind_word k) ≡ Some (kind_word k)
kind_written k = grind arith

kind_read : (k : Kind) → extern_kind_of (kind_word k) ≡ Some k
unfolding kind_of
kind_read k = grind arith

pub extern_laid : (x : List ℕ × Kind) (rest : List Word) → laid (extern_words x rest) ≡ extern_text x ++ laid rest
extern_laid x rest = sym (simp append_assoc)

pub extern_cut : (x : List ℕ × Kind) (rest : List Word) → IsExtern x → AreCut rest → AreCut (extern_words x rest)
extern_cut x rest is more =
    (name_cut (kind_written x.1), (sign_cut refl, (name_cut is.leaf.written, (sign_cut refl, more))))

pub kind_symbol : (k : Kind) → symbol (name_word (kind_word k)) ≡ symbols.Word (kind_word k)
unfolding operator_of prefix_word relation_word arithmetic_word is_language_word
kind_symbol k = grind arith

-- a group of one name, and what follows it
group_said : (x : List ℕ × Kind) (rest : List Symbol) (xs : List (List ℕ × Kind)) → IsExtern x
    → grammar.AreExterns (Some x.1) (symbols.Name x.0 ∷ rest) xs
    → grammar.AreExterns None (symbol (name_word (kind_word x.1)) ∷ symbols.Open ∷ symbol (name_word x.0) ∷ rest) xs
group_said x rest xs is names =
    rw (kind_symbol x.1, name_symbol x.0 is.leaf) (grammar.Group (kind_read x.1) names)

pub externs_said : (xs : List (List ℕ × Kind)) → OneOrMore IsExtern xs
    → grammar.AreExterns None (map symbol (list_words extern_words xs)) xs
externs_said [] is = absurd is
externs_said (x ∷ []) is = group_said x _ _ is.0 (grammar.Last is.0.free)
externs_said (x ∷ y ∷ more) is = group_said x _ _ is.0 (grammar.Next is.0.free (externs_said (y ∷ more) is.1))

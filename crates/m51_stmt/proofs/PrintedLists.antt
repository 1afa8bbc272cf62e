-- Printed names and items read back.
use Rattle.m51_stmt.proofs
use proofs.Common.{◌≡◌, ℕ, ◌-◌, ◌==◌, Bool, true, false, cond, max, map, List, [], ◌∷◌, ◌++◌, length, refl, arith}
use proofs.Common.{append_assoc, length-append, take-append_seam, quote, characters, between_quotes, Tree, ItemTree}
use proofs.Common.{doubled, item_text}
use Rattle.m51_stmt.specs.Statement.{Value, Text}
use proofs.LineCuts.{Word, laid, AreCut, symbol}
use proofs.WordCuts.{name_word, text_word, name_cut, text_cut}
use proofs.PrintedTrees.{IsLeafName, IsTree, expr_words, expr_said, expr_cut, expr_laid}
use proofs.ListWords.{IsPart, one_part}
use proofs.PrintedParts.{name_symbol, expr_part}
use Rattle.m51_expr.specs.declared.symbol.Symbol.TheVariants as symbols
use Rattle.m51_expr.specs.Tree as tree
use Rattle.m51_stmt.specs.Grammar as grammar

-- names
abbrev pub name_words : List ℕ → List Word → List Word
name_words name rest = name_word name ∷ rest

pub names_cut : (name : List ℕ) (rest : List Word) → IsLeafName name → AreCut rest → AreCut (name_words name rest)
names_cut name rest is more = (name_cut is.written, more)

pub name_said : (name : List ℕ) → IsLeafName name → grammar.IsName (map symbol (name_words name [])) name
name_said name is = rw (name_symbol name is) grammar.Name

-- items
abbrev pub item_words : ItemTree → List Word → List Word
item_words (Value e) rest = expr_words e rest
item_words (Text characters) rest = text_word characters ∷ rest

-- an item that can be read: a text only in DB
abbrev pub IsItem : Bool → ItemTree → Type 0
IsItem texts (Value e) = IsTree e
IsItem texts (Text characters) = texts ≡ true

pub item_laid : (i : ItemTree) (rest : List Word) → laid (item_words i rest) ≡ item_text i ++ laid rest
item_laid i rest = grind (arith, expr_laid, append_assoc)

pub item_cut : (texts : Bool) (i : ItemTree) (rest : List Word) → IsItem texts i → AreCut rest
    → AreCut (item_words i rest)
item_cut texts (Value e) rest is more = expr_cut e rest is more
item_cut texts (Text characters) rest is more = (text_cut characters, more)

undoubled_by : (c : ℕ) (more : List ℕ) (b : Bool) → (c == quote) ≡ b → characters (doubled more) ≡ more
    → characters (cond b (quote ∷ quote ∷ doubled more) (c ∷ doubled more)) ≡ c ∷ more
undoubled_by c more b is h = grind arith

undoubled : (cs : List ℕ) → characters (doubled cs) ≡ cs
undoubled [] = refl
undoubled (c ∷ more) = undoubled_by c more (c == quote) refl (undoubled more)

between : (inside : List ℕ) → between_quotes (quote ∷ inside ++ quote ∷ []) ≡ inside
between inside =
    let n : max (length (quote ∷ inside ++ quote ∷ [])) 2 - 1 - 1 ≡ length inside =
    omega (arith, length-append inside (quote ∷ [])) in
    rw n (take-append_seam inside (quote ∷ []))

-- a text is its characters
text_symbol : (cs : List ℕ) → symbol (text_word cs) ≡ symbols.Text cs
text_symbol cs = rw (between (doubled cs), undoubled cs) refl

-- an expression that is printed is no text
no_text : (e : Tree) → IsTree e → grammar.is_text_alone (map symbol (expr_words e [])) ≡ false
no_text (tree.Name name) is = rw (name_symbol name is) refl
no_text e is = refl

pub item_said : (i : ItemTree) → IsItem true i → grammar.IsItem (map symbol (item_words i [])) i
item_said (Value e) is = grammar.Value (no_text e is) (expr_said e is)
item_said (Text cs) is = rw (text_symbol cs) grammar.Text

pub value_said : (i : ItemTree) → IsItem false i → grammar.IsValue (map symbol (item_words i [])) i
value_said (Value e) is = grammar.Data (expr_said e is)
value_said (Text cs) is = absurd (cc is)

pub item_part : (i : ItemTree) → IsPart (λ rest. item_words i rest)
item_part (Value e) = expr_part e
item_part (Text cs) = one_part (text_word cs)

-- A printed expression is a part of a list.
use Rattle.m51_stmt.proofs
use proofs.Common.{◌≡◌, ℕ, List, ◌∷◌, ap, ◌∙◌, word_or_other, Tree}
use proofs.LineCuts.{symbol}
use proofs.WordCuts.{name_word}
use proofs.PrintedTrees.{IsLeafName, open_word, close_word, before_word, between_word, expr_words}
use proofs.ListWords.{IsPart, after_word, one_part, two_parts}
use Rattle.m51_expr.specs.declared.symbol.Symbol.TheVariants as symbols
use Rattle.m51_expr.specs.Tree as tree

pub name_symbol : (name : List ℕ) → IsLeafName name → symbol (name_word name) ≡ symbols.Name name
name_symbol name is = ap word_or_other is.written ∙ is.leaf

pub expr_part : (e : Tree) → IsPart (λ rest. expr_words e rest)
expr_part (tree.One op e) =
    after_word open_word (after_word (before_word op)
    (two_parts (λ rest. expr_words e rest) (λ rest. close_word ∷ rest) (expr_part e) (one_part close_word)))
expr_part (tree.Two op left right) =
    after_word open_word
    (two_parts (λ rest. expr_words left rest) (λ rest. between_word op ∷ expr_words right (close_word ∷ rest))
    (expr_part left)
    (after_word (between_word op)
    (two_parts (λ rest. expr_words right rest) (λ rest. close_word ∷ rest) (expr_part right) (one_part close_word))))
expr_part e = one_part _

-- A printed expression reads back.
use Rattle.m51_stmt.proofs
use proofs.Common.{◌≡◌, ℕ, zero, suc, ◌+◌, ◌-◌, ◌<◌, ◌≤◌, map, List, [], ◌∷◌, ◌++◌, length, drop, Some, None, refl, sym}
use proofs.Common.{ap, ◌∙◌, arith, append_assoc, slice_get, codes, name_of, What, space, Symbol, word_symbol, Tree}
use proofs.Common.{prefix_rank, is_open, leaf_of, Line, line_of_symbols, Writes, Leaf, Parens, Before, Between, Tighter}
use proofs.Common.{IsExpr, word_text, number_text}
use Rattle.std.proofs.Common.{drop-drop}
use Rattle.m51_expr.specs.declared.tree.Unary.{Unary}
use Rattle.m51_expr.specs.declared.tree.Binary.{Binary}
use Rattle.m51_expr.specs.Symbol.{operator_of, prefix_word, relation_word, arithmetic_word}
use Rattle.m51_expr.specs.Ranks.{infix_rank, prefix_of, infix_of, is_close}
use Rattle.m51_expr.proofs.Complete.{ends_within}
use Rattle.m51_stmt.specs.Printing.{unary_word, binary_word, expr_text}
use proofs.LineCuts.{Word, laid, IsCut, AreCut, symbol}
use proofs.WordCuts.{name_word, number_word, sign_word, name_cut, number_cut, sign_cut, cuts}
use Rattle.m51_lex.specs.declared.token.What.TheVariants as what
use Rattle.m51_expr.specs.declared.tree.Unary.TheVariants as op1
use Rattle.m51_expr.specs.declared.tree.Binary.TheVariants as op2
use Rattle.m51_expr.specs.declared.symbol.Symbol.TheVariants as symbols
use Rattle.m51_expr.specs.Tree as tree

-- a name that an expression may have
pub record IsLeafName (name : List ℕ) : Type 0 where
  pub written : name_of name ≡ Some name
  pub leaf : word_symbol name ≡ symbols.Name name

-- a tree that an expression can be read as: its numbers have 16 bits, and its names are written ones
abbrev pub IsTree : Tree → Type 0
IsTree (tree.Number n) = n < 65536
IsTree (tree.Name name) = IsLeafName name
IsTree tree.Here = Unit {0}
IsTree (tree.One op e) = IsTree e
IsTree (tree.Two op left right) = IsTree left × IsTree right

abbrev pub open_word : Word
open_word = sign_word 0x28

abbrev pub close_word : Word
close_word = sign_word 0x29

abbrev pub unary_what : Unary → What
unary_what op1.Plus = what.Sign 0x2B
unary_what op1.Minus = what.Sign 0x2D
unary_what op = what.Name

abbrev pub before_word : Unary → Word
before_word op = record { what = unary_what op; text = unary_word op }

abbrev pub binary_what : Binary → What
binary_what op2.Mul = what.Sign 0x2A
binary_what op2.Div = what.Sign 0x2F
binary_what op2.Add = what.Sign 0x2B
binary_what op2.Sub = what.Sign 0x2D
binary_what op2.Dot = what.Sign 0x2E
binary_what op = what.Name

abbrev pub between_word : Binary → Word
between_word op = record { what = binary_what op; text = binary_word op }

-- the words of an expression, before other words
abbrev pub expr_words : Tree → List Word → List Word
expr_words (tree.Number n) rest = number_word n ∷ rest
expr_words (tree.Name name) rest = name_word name ∷ rest
expr_words tree.Here rest = sign_word 0x24 ∷ rest
expr_words (tree.One op e) rest = open_word ∷ before_word op ∷ expr_words e (close_word ∷ rest)
expr_words (tree.Two op left right) rest =
    open_word ∷ expr_words left (between_word op ∷ expr_words right (close_word ∷ rest))

-- a word and a blank, before others
pub one_laid : (text rest : List ℕ) → text ++ space ∷ rest ≡ word_text text ++ rest
one_laid text rest = sym (append_assoc text (space ∷ []) rest)

around : (p l b s m c r : List ℕ)
    → p ++ (l ++ (b ++ (s ++ (m ++ (c ++ r))))) ≡ ((((p ++ l) ++ (b ++ s)) ++ m) ++ c) ++ r
around p l b s m c r = sym (simp append_assoc)

-- these words are the printed text
pub expr_laid : (e : Tree) (rest : List Word) → laid (expr_words e rest) ≡ expr_text e ++ laid rest
expr_laid (tree.Number n) rest = one_laid (number_text n) (laid rest)
expr_laid (tree.Name name) rest = one_laid name (laid rest)
expr_laid tree.Here rest = refl
expr_laid (tree.One op e) rest = simp (expr_laid e (close_word ∷ rest), append_assoc)
expr_laid (tree.Two op left right) rest =
    rw (expr_laid left (between_word op ∷ expr_words right (close_word ∷ rest)), expr_laid right (close_word ∷ rest))
    (around (word_text (codes "(")) (expr_text left) (binary_word op) (space ∷ []) (expr_text right)
    (word_text (codes ")")) (laid rest))

before_cut : (op : Unary) → IsCut (before_word op)
before_cut op1.Plus = sign_cut refl
before_cut op = search cuts

between_cut : (op : Binary) → IsCut (between_word op)
between_cut op2.Mul = sign_cut refl
between_cut op = search cuts

pub expr_cut : (e : Tree) (rest : List Word) → IsTree e → AreCut rest → AreCut (expr_words e rest)
expr_cut (tree.Number n) rest h more = (number_cut h, more)
expr_cut (tree.Name name) rest h more = (name_cut h.written, more)
expr_cut tree.Here rest h more = (sign_cut refl, more)
expr_cut (tree.One op e) rest h more =
    (sign_cut refl, (before_cut op, expr_cut e (close_word ∷ rest) h (sign_cut refl, more)))
expr_cut (tree.Two op left right) rest h more = (
  sign_cut refl,
  expr_cut left (between_word op ∷ expr_words right (close_word ∷ rest)) h.0
      (between_cut op, expr_cut right (close_word ∷ rest) h.1 (sign_cut refl, more)),
)

before_is : (op : Unary) → prefix_of (Some (symbol (before_word op))) (prefix_rank op) ≡ Some op
unfolding operator_of prefix_word relation_word arithmetic_word
before_is op = grind arith

between_is : (op : Binary) → infix_of (Some (symbol (between_word op))) (infix_rank op) ≡ Some op
unfolding operator_of prefix_word relation_word arithmetic_word
between_is op = grind arith

loosen : (d : ℕ) {line : Line} {at : ℕ} {e : Tree} {to : ℕ} (tight rank : ℕ) → rank + d ≡ tight → tight ≤ 8
    → Writes line tight at e to → Writes line rank at e to
loosen zero tight rank h le w = let same : tight ≡ rank = omega (arith, h) in rw same at w
loosen (suc d) tight rank h le w = Tighter (omega (arith, h, le)) (loosen d tight (rank + 1) (omega (arith, h)) le w)

-- what has a rank is an expression of any looser rank
looser : {line : Line} {at : ℕ} {e : Tree} {to : ℕ} (tight rank : ℕ) → rank ≤ tight → tight ≤ 8
    → Writes line tight at e to → Writes line rank at e to
looser tight rank le high w = loosen (tight - rank) tight rank (omega (arith, le)) high w

-- from an index to its end the line consists of these words
abbrev Stands : Line → ℕ → List Word → Type 0
Stands line at [] = line at ≡ None
Stands line at (w ∷ ws) = (line at ≡ Some (symbol w)) × Stands line (at + 1) ws

record Written (line : Line) (at : ℕ) (e : Tree) (rest : List Word) : Type 0 where
  next : ℕ
  writes : Writes line 8 at e next
  then : Stands line next rest

leaf_written : (line : Line) (at : ℕ) (e : Tree) (w : Word) (rest : List Word) → leaf_of (Some (symbol w)) ≡ Some e
    → Stands line at (w ∷ rest) → Written line at e rest
leaf_written line at e w rest leaf h = grind (arith, Leaf)

-- what is printed of a tree is an operand of the grammar
written : (line : Line) (at : ℕ) (e : Tree) (rest : List Word) → IsTree e → Stands line at (expr_words e rest)
    → Written line at e rest
written line at (tree.Number n) rest is h = leaf_written line at (tree.Number n) (number_word n) rest refl h
written line at (tree.Name name) rest is h =
    leaf_written line at (tree.Name name) (name_word name) rest (rw (is.written, is.leaf) refl) h
written line at tree.Here rest is h = leaf_written line at tree.Here (sign_word 0x24) rest refl h
written line at (tree.One op e) rest is h =
    let inner = written line (at + 1 + 1) e (close_word ∷ rest) is h.1.1 in
    let r = prefix_rank op in
    let low : prefix_rank op ≤ 8 = grind arith in
    let sign : prefix_of (line (at + 1)) r ≡ Some op = rw h.1.0 (before_is op) in
    let ranked : Writes line r (at + 1) (tree.One op e) inner.next =
    Before sign (looser 8 r low (omega arith) inner.writes) in
    record {
      next = inner.next + 1;
      writes = Parens refl (ap is_open h.0) (looser r 0 (omega arith) low ranked) (ap is_close inner.then.0) refl;
      then = inner.then.1;
    }
written line at (tree.Two op left right) rest is h =
    let l = written line (at + 1) left (between_word op ∷ expr_words right (close_word ∷ rest)) is.0 h.1 in
    let m = written line (l.next + 1) right (close_word ∷ rest) is.1 l.then.1 in
    let r = infix_rank op in
    let low : infix_rank op + 1 ≤ 8 = grind arith in
    let sign : infix_of (line l.next) r ≡ Some op = rw l.then.0 (between_is op) in
    let ranked : Writes line r (at + 1) (tree.Two op left right) m.next =
    Between (looser 8 r (omega (arith, low)) (omega arith) l.writes) sign
    (looser 8 (r + 1) low (omega arith) m.writes) in
    record {
      next = m.next + 1;
      writes = Parens refl (ap is_open h.0) (looser r 0 (omega arith) (omega (arith, low)) ranked)
          (ap is_close m.then.0) refl;
      then = m.then.1;
    }

-- the words of a list of symbols are at its indices
get : (l : List Symbol) (at : ℕ) → slice_get l at ≡ slice_get (drop at l) 0
get [] zero = refl
get [] (suc at) = refl
get (s ∷ l) zero = refl
get (s ∷ l) (suc at) = get l at

stand : (l : List Symbol) (ws : List Word) (at : ℕ) → drop at l ≡ map symbol ws → Stands (line_of_symbols l) at ws
stand l [] at h = get l at ∙ ap (λ r. slice_get r 0) h
stand l (w ∷ ws) at h =
    (get l at ∙ ap (λ r. slice_get r 0) h, stand l ws (at + 1) (sym (drop-drop 1 at l) ∙ ap (drop 1) h))

past_end : (l : List Symbol) (at : ℕ) → slice_get l at ≡ None → length l ≤ at
past_end [] at h = omega arith
past_end (s ∷ l) zero h = absurd (cc h)
past_end (s ∷ l) (suc at) h = omega (arith, past_end l at h)

-- a printed expression is one of the grammar
pub expr_said : (e : Tree) → IsTree e → IsExpr (map symbol (expr_words e [])) e
expr_said e is =
    let l = map symbol (expr_words e []) in
    let w = written (line_of_symbols l) 0 e [] is (stand l (expr_words e []) 0 refl) in
    let all : w.next ≡ length l = omega (arith, ends_within l w.writes, past_end l w.next w.then) in
    record { writes = rw all at (looser 8 0 (omega arith) (omega arith) w.writes) }

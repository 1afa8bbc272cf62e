-- The tree that symbols write, by the ranks of their operators, as a function. What it means is said in Grammar.
use Rattle.std.specs.Prelude.{ℕ, zero, suc, ◌+◌, ◌-◌, ◌*◌, ◌==◌, if◌then◌else◌, List, length, Option, Some, None}
use Rattle.std.specs.Prelude.{Result, Ok, Err, Bool, true, false, slice_get}
use Rattle.m51_cells.specs.Outcome.{Gives}
use Rattle.m51_cells.specs.declared.fault.TheConstants.{NO_EXPRESSION}
use Rattle.m51_expr.specs.declared.tree.Unary.{Unary}
use Rattle.m51_expr.specs.declared.tree.Binary.{Binary}
use Rattle.m51_expr.specs.declared.tree.Expr.{Expr}
use Rattle.m51_expr.specs.declared.fault.ReadError.{ReadError}
use Rattle.m51_expr.specs.declared.fault.ReadError.TheVariants.{Fault, Memory}
use Rattle.m51_expr.specs.declared.symbol.Symbol.{Symbol}
use Rattle.m51_expr.specs.Tree.{Tree, One, Two, tree_of}
use Rattle.m51_expr.specs.Ranks.{prefix_of, infix_of, is_open, is_close, leaf_of}

-- the symbol at each index
abbrev pub Line : Type 0
Line = ℕ → Option Symbol

-- a tree and the index after it, or none
abbrev pub ParsedTree : Type 0
ParsedTree = Option (Tree × ℕ)

-- continues with the tree and the index after it, if there is one
abbrev pub then_read : ParsedTree → (Tree → ℕ → ParsedTree) → ParsedTree
then_read None go = None
then_read (Some (e, at)) go = go e at

-- the tree, and the index after the closing parenthesis; none where there is no such parenthesis
abbrev pub closed : Bool → Tree → ℕ → ParsedTree
closed true e at = Some (e, at + 1)
closed false e at = None

-- an operand of one symbol, and the index after it
abbrev pub leaf_at : Option Tree → ℕ → ParsedTree
leaf_at None at = None
leaf_at (Some e) at = Some (e, at + 1)

-- an expression in parentheses, which `inner` reads, or else a number, a text of one or two characters, a name or the
-- place of the statement
abbrev pub operand : Line → ℕ → ParsedTree → ParsedTree
operand line at inner =
    if is_open (line at) then then_read inner (λ e next. closed (is_close (line next)) e next)
    else leaf_at (leaf_of (line at)) at

-- an operator before its operand, which `inner` reads, or else what has no such operator
abbrev pub prefixed : Option Unary → ParsedTree → ParsedTree → ParsedTree
prefixed (Some op) inner plain = then_read inner (λ e next. Some (One op e, next))
prefixed None inner plain = plain

-- the tree ends where no operator follows; else reading continues with the operator
abbrev pub followed : Option Binary → Tree → ℕ → (Binary → ParsedTree) → ParsedTree
followed None left at go = Some (left, at)
followed (Some op) left at go = go op

-- Reading takes a bound on its steps, which grows with the line: see `enough`.
unfoldable mutual
  -- The expression of this rank that begins at an index: an operator of the rank and an expression of the rank, or an
  -- expression of the next rank and operators of this one after it. An operand has rank 8.
  pub read : ℕ → Line → ℕ → ℕ → ParsedTree
  read zero line rank at = None
  read (suc n) line rank at =
      if rank == 8 then operand line at (read n line 0 (at + 1))
      else prefixed (prefix_of (line at) rank) (read n line rank (at + 1))
      (then_read (read n line (rank + 1) at) (λ left next. operators_after n line rank left next))

  -- an expression of this rank continues, from left to right, as long as operators of the rank follow
  pub operators_after : ℕ → Line → ℕ → Tree → ℕ → ParsedTree
  operators_after zero line rank left at = None
  operators_after (suc n) line rank left at =
      followed (infix_of (line at) rank) left at
      (λ op. then_read (read n line (rank + 1) (at + 1))
      (λ right next. operators_after n line rank (Two op left right) next))

-- An operand continues as an expression of each rank down to this one, which is `k` ranks below that of operands.
unfoldable pub looser : ℕ → ℕ → Line → ℕ → Tree → ℕ → ParsedTree
looser zero n line rank left at = Some (left, at)
looser (suc k) n line rank left at =
    then_read (looser k (n - 1) line (rank + 1) left at) (λ inner next. operators_after (n - 1) line rank inner next)

-- how many steps are enough for an expression of this rank that ends within `left` symbols
abbrev pub enough : ℕ → ℕ → ℕ
enough left rank = 10 * left + (9 - rank)

-- the symbol at each index of a list, and none past its end
abbrev pub line_of_symbols : List Symbol → Line
line_of_symbols symbols at = slice_get symbols at

-- the expression that the symbols begin with and that no infix operator follows, and how many of them it has, or none
abbrev pub expression_in : List Symbol → ParsedTree
expression_in symbols = read (enough (length symbols) 0) (line_of_symbols symbols) 0 0

-- the expression that begins at an index among the symbols and that no infix operator follows, and the index after it,
-- or none
abbrev pub expression_from : ℕ → List Symbol → ParsedTree
expression_from from symbols = read (enough (length symbols - from) 0) (line_of_symbols symbols) 0 from

-- the tree and the index that a function returned
abbrev pub tree_and_index : Expr × ℕ → Tree × ℕ
tree_and_index r = (tree_of r.0, r.1)

-- the number of a fault; out of memory has none
abbrev pub read_fault : ReadError → Option ℕ
read_fault (Fault k) = Some k
read_fault Memory = None

-- what is read, or the fault that there is no expression
abbrev pub or_no_expression : ParsedTree → Result (Tree × ℕ) ℕ
or_no_expression (Some r) = Ok r
or_no_expression None = Err NO_EXPRESSION

-- a function gave this tree and index, or that fault where there is none, unless it is out of memory
abbrev pub GivesTree : Result (Expr × ℕ) ReadError → ParsedTree → Type 0
GivesTree result reads = Gives tree_and_index read_fault result (or_no_expression reads)

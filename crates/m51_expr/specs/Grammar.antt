-- The grammar of expressions, by ranks.
use Rattle.std.specs.Prelude.{◌≡◌, ℕ, ◌+◌, ◌<◌, ◌≤◌, true, Some, None}
use Rattle.m51_expr.specs.declared.tree.Unary.{Unary}
use Rattle.m51_expr.specs.declared.tree.Binary.{Binary}
use Rattle.m51_expr.specs.Tree.{Tree, One, Two}
use Rattle.m51_expr.specs.Ranks.{prefix_of, infix_of, is_open, is_close, leaf_of}
use Rattle.m51_expr.specs.Reading.{Line}

-- Writes line rank from e to: from one index up to another the line writes a tree, as an expression of the rank.
--   operand      = number | text of one or two characters | name | $ | ( expression )
--   of a rank    = prefix of the rank, expression of the rank
--                | expression of the rank, infix of the rank, expression of the next rank
--                | expression of the next rank
-- An operand has rank 8, the tightest, and an expression rank 0.
pub data Writes (line : Line) : ℕ → ℕ → Tree → ℕ → Type 0 where
  Leaf : {rank from to : ℕ} {e : Tree}
      → rank ≡ 8 → leaf_of (line from) ≡ Some e → to ≡ from + 1 → Writes line rank from e to
  Parens : {rank from last to : ℕ} {e : Tree}
      → rank ≡ 8 → is_open (line from) ≡ true → Writes line 0 (from + 1) e last → is_close (line last) ≡ true
      → to ≡ last + 1 → Writes line rank from e to
  Before : {rank from to : ℕ} {op : Unary} {e : Tree}
      → prefix_of (line from) rank ≡ Some op → Writes line rank (from + 1) e to → Writes line rank from (One op e) to
  Between : {rank from mid to : ℕ} {op : Binary} {left right : Tree}
      → Writes line rank from left mid → infix_of (line mid) rank ≡ Some op → Writes line (rank + 1) (mid + 1) right to
      → Writes line rank from (Two op left right) to
  Tighter : {rank from to : ℕ} {e : Tree}
      → rank < 8 → Writes line (rank + 1) from e to → Writes line rank from e to

-- no operator of this rank or a tighter one is at an index
abbrev pub Ends : Line → ℕ → ℕ → Type 0
Ends line rank at = (r : ℕ) → rank ≤ r → infix_of (line at) r ≡ None

-- the whole expression of a rank that begins at an index: the line writes it, and it does not continue after its end
pub record IsExpression (line : Line) (rank from : ℕ) (e : Tree) (to : ℕ) : Type 0 where
  pub writes : Writes line rank from e to
  pub ends : Ends line rank to

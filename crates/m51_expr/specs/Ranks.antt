-- The ranks of operators. A higher rank is tighter.
use Rattle.std.specs.Prelude.{ℕ, ◌+◌, ◌*◌, Bool, true, false, ◌==◌, if◌then◌else◌, List, [], ◌∷◌, Option, Some, None}
use Rattle.std.specs.Prelude.{option_map}
use Rattle.m51_expr.specs.declared.symbol.Symbol.{Symbol}
use Rattle.m51_expr.specs.declared.symbol.Symbol.TheVariants.{Number, Name, Here, Open, Close, Plus, Minus, Prefix}
use Rattle.m51_expr.specs.declared.symbol.Symbol.TheVariants.{Infix, Text}
use Rattle.m51_expr.specs.declared.tree.Unary.{Unary}
use Rattle.m51_expr.specs.declared.tree.Unary.TheVariants as unary
use Rattle.m51_expr.specs.declared.tree.Binary.{Binary}
use Rattle.m51_expr.specs.declared.tree.Binary.TheVariants as binary
use Rattle.m51_expr.specs.Tree as tree
use Rattle.m51_expr.specs.Tree.{Tree}

-- The ranks, loosest first: 0 OR XOR; 1 AND; 2 NOT; 3 EQ NE LT LE GT GE; 4 + and -; 5 * / MOD SHL SHR; 6 unary + and -,
-- HIGH, LOW; 7 the dot; 8 operands.
abbrev pub prefix_rank : Unary → ℕ
prefix_rank unary.Not = 2
prefix_rank op = 6

-- the rank of an operator between two operands
abbrev pub infix_rank : Binary → ℕ
infix_rank binary.Or = 0
infix_rank binary.Xor = 0
infix_rank binary.And = 1
infix_rank binary.Add = 4
infix_rank binary.Sub = 4
infix_rank binary.Mul = 5
infix_rank binary.Div = 5
infix_rank binary.Rem = 5
infix_rank binary.Shl = 5
infix_rank binary.Shr = 5
infix_rank binary.Dot = 7
infix_rank relation = 3

-- the operator that a symbol is before an operand
abbrev pub prefix_operator : Option Symbol → Option Unary
prefix_operator (Some Plus) = Some unary.Plus
prefix_operator (Some Minus) = Some unary.Minus
prefix_operator (Some (Prefix op)) = Some op
prefix_operator _ = None

-- the operator that a symbol is between two operands
abbrev pub infix_operator : Option Symbol → Option Binary
infix_operator (Some Plus) = Some binary.Add
infix_operator (Some Minus) = Some binary.Sub
infix_operator (Some (Infix op)) = Some op
infix_operator _ = None

-- an operator whose rank is this one
abbrev pub of_rank : {Op : Type 0} → (Op → ℕ) → ℕ → Option Op → Option Op
of_rank rank_of rank None = None
of_rank rank_of rank (Some op) = if rank == rank_of op then Some op else None

-- the operator of this rank before an operand, if there is one
abbrev pub prefix_of : Option Symbol → ℕ → Option Unary
prefix_of symbol rank = of_rank prefix_rank rank (prefix_operator symbol)

-- the operator of this rank between two operands, if there is one
abbrev pub infix_of : Option Symbol → ℕ → Option Binary
infix_of symbol rank = of_rank infix_rank rank (infix_operator symbol)

-- an opening parenthesis
abbrev pub is_open : Option Symbol → Bool
is_open (Some Open) = true
is_open _ = false

-- a closing parenthesis
abbrev pub is_close : Option Symbol → Bool
is_close (Some Close) = true
is_close _ = false

-- the number that a text of one or two characters is, the first one high
abbrev pub text_value : List ℕ → Option ℕ
text_value (c ∷ []) = Some c
text_value (c ∷ d ∷ []) = Some (256 * c + d)
text_value other = None

-- the tree that a symbol is of itself: a number, a short text as a number, a name, the place of the statement
abbrev pub leaf_of : Option Symbol → Option Tree
leaf_of (Some (Number n)) = Some (tree.Number n)
leaf_of (Some (Text characters)) = option_map tree.Number (text_value characters)
leaf_of (Some (Name name)) = Some (tree.Name name)
leaf_of (Some Here) = Some tree.Here
leaf_of _ = None

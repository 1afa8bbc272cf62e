-- The value of an expression.
use Rattle.std.specs.Prelude.{Bool, true, false, if◌then◌else◌, Option, Some, None, Ok}
use Rattle.m51_cells.specs.declared.kind.Kind.TheVariants as kind
use Rattle.m51_expr.specs.declared.value.Value.{Value}
use Rattle.m51_expr.specs.declared.tree.Binary.{Binary}
use Rattle.m51_expr.specs.declared.tree.Binary.TheVariants.{Dot}
use Rattle.m51_expr.specs.Tree.{Tree, Number, Name, Here, One, Two}
use Rattle.m51_cells.specs.declared.fault.TheConstants.{UNKNOWN_NAME}
use Rattle.m51_cells.specs.Outcome.{and_then}
use Rattle.m51_expr.specs.Value.{Valued, fault, plain}
use Rattle.m51_expr.specs.Meanings.{Meanings}
use Rattle.m51_expr.specs.Operators.{unary, binary}
use Rattle.m51_expr.specs.Bits.{dot}

-- the dot, which takes a byte and the number of its bit
abbrev pub is_dot : Binary → Bool
is_dot Dot = true
is_dot op = false

-- an operator between two operands
abbrev pub applied : Meanings → Binary → Value → Value → Valued Value
applied names op x y = if is_dot op then dot names x y else binary names op x y

-- the value of a name, or that it has none
abbrev pub or_unknown : Option Value → Valued Value
or_unknown (Some v) = Ok v
or_unknown None = fault UNKNOWN_NAME

-- the value of a tree, or the fault of its first failing node: operands before the operator, the left one first
unfoldable pub value_of : Meanings → Tree → Valued Value
value_of names (Number n) = Ok (plain n kind.Number)
value_of names Here = Ok names.here
value_of names (Name name) = or_unknown (names.value name)
value_of names (One op inner) = and_then (value_of names inner) (unary names op)
value_of names (Two op left right) =
    and_then (value_of names left) (λ x. and_then (value_of names right) (applied names op x))

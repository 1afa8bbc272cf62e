-- Operators on values, but the dot (this project's rules on numbers, bases and classes).
use Rattle.std.specs.Prelude.{ℕ, ◌+◌, ◌-◌, ◌*◌, ◌/◌, ◌%◌, ◌^◌, ◌==◌, Bool, true, false, not, ◌&&◌, ◌||◌, nat_lt, nat_le}
use Rattle.std.specs.Prelude.{if◌then◌else◌, Option, Some, None, Ok, bit_and, bit_or, bit_xor}
use Rattle.m51_cells.specs.declared.kind.Base.{Base}
use Rattle.m51_cells.specs.declared.kind.Base.TheVariants as base
use Rattle.m51_cells.specs.declared.kind.Kind.{Kind}
use Rattle.m51_cells.specs.declared.kind.Kind.TheVariants as kind
use Rattle.m51_expr.specs.declared.value.Part.{Part}
use Rattle.m51_expr.specs.declared.value.Part.TheVariants.{Whole, High, Low}
use Rattle.m51_expr.specs.declared.value.Value.{Value}
use Rattle.m51_expr.specs.declared.tree.Unary.{Unary}
use Rattle.m51_expr.specs.declared.tree.Unary.TheVariants as op1
use Rattle.m51_expr.specs.declared.tree.Binary.{Binary}
use Rattle.m51_expr.specs.declared.tree.Binary.TheVariants as op2
use Rattle.m51_cells.specs.declared.fault.TheConstants.{BASE_NOT_ALLOWED, DIVISION_BY_ZERO}
use Rattle.m51_cells.specs.Outcome.{and_then}
use Rattle.m51_expr.specs.Value.{Valued, fault, plain, is_whole, counted}
use Rattle.m51_expr.specs.Meanings.{Meanings, is_absolute_base, is_unplaced, as_number}

-- a value of this base and part under HIGH or LOW, where it keeps its base
abbrev pub under : Part → Value → Base → Part → Option Value
under part v base.None old = None
under part v b Whole = Some (record v { class = kind.Number; part = part })
under part v b old = None

-- the whole value of any base keeps it under one HIGH or LOW
abbrev pub kept_under : Part → Value → Option Value
kept_under part v = under part v v.base v.part

-- that value, or else what the number gives
abbrev pub or_number : Option Value → Valued ℕ → (ℕ → ℕ) → Valued Value
or_number (Some v) n f = Ok v
or_number None n f = and_then n (λ n. Ok (plain (f n) kind.Number))

-- an operator before an operand
abbrev pub unary : Meanings → Unary → Value → Valued Value
unary names op1.High v = or_number (kept_under High v) (as_number names v) (λ n. n / 256)
unary names op1.Low v = or_number (kept_under Low v) (as_number names v) (λ n. n % 256)
unary names op1.Plus v = and_then (as_number names v) (λ n. Ok (plain n v.class))
unary names op1.Minus v = and_then (as_number names v) (λ n. Ok (plain ((65536 - n) % 65536) kind.Number))
unary names op1.Not v = and_then (as_number names v) (λ n. Ok (plain (65535 - n) kind.Number))

-- without a relocatable or external base a value counts after HIGH, LOW or the dot as the byte or the bit address
abbrev pub settled : Meanings → Value → Value
settled names v = if is_unplaced names v.base || is_whole v.part then v else plain (counted v) v.class

-- an absolute base beside a relocatable or external one counts as its number
abbrev pub beside : Meanings → Base → Value → Value
beside names other v = if is_unplaced names other && is_absolute_base names v.base then plain v.number v.class else v

-- the bases are one
abbrev pub same_base : Base → Base → Bool
same_base base.None base.None = true
same_base (base.Segment s) (base.Segment t) = s == t
same_base (base.External s) (base.External t) = s == t
same_base a b = false

-- a truth as a number
abbrev pub truth : Bool → ℕ
truth b = if b then 65535 else 0

-- an operator between two numbers, unsigned and modulo 65,536; never applied to the dot, which is no operator between
-- numbers
abbrev pub arithmetic : Binary → ℕ → ℕ → Valued ℕ
arithmetic op2.Mul a b = Ok (a * b % 65536)
arithmetic op2.Div a b = if b == 0 then fault DIVISION_BY_ZERO else Ok (a / b)
arithmetic op2.Rem a b = if b == 0 then fault DIVISION_BY_ZERO else Ok (a % b)
arithmetic op2.Shl a b = Ok (if nat_lt b 16 then a * 2 ^ b % 65536 else 0)
arithmetic op2.Shr a b = Ok (if nat_lt b 16 then a / 2 ^ b else 0)
arithmetic op2.Add a b = Ok ((a + b) % 65536)
arithmetic op2.Sub a b = Ok ((65536 + a - b) % 65536)
arithmetic op2.Eq a b = Ok (truth (a == b))
arithmetic op2.Ne a b = Ok (truth (not (a == b)))
arithmetic op2.Lt a b = Ok (truth (nat_lt a b))
arithmetic op2.Le a b = Ok (truth (nat_le a b))
arithmetic op2.Gt a b = Ok (truth (nat_lt b a))
arithmetic op2.Ge a b = Ok (truth (nat_le b a))
arithmetic op2.And a b = Ok (bit_and a b)
arithmetic op2.Or a b = Ok (bit_or a b)
arithmetic op2.Xor a b = Ok (bit_xor a b)
arithmetic op2.Dot a b = Ok 0

-- x + n, n + x and x - n, where n has no class, have the class of x
abbrev pub class_of : Binary → Kind → Kind → Kind
class_of op2.Add x kind.Number = x
class_of op2.Add kind.Number y = y
class_of op2.Sub x kind.Number = x
class_of op x y = kind.Number

-- The base of a sum or a difference, where the rules give one: it is kept, or cancelled between values of one base.
abbrev pub base_of : Binary → Base → Base → Option Base
base_of op2.Add x base.None = Some x
base_of op2.Sub x base.None = Some x
base_of op2.Add base.None y = Some y
base_of op2.Sub x y = if same_base x y then Some base.None else None
base_of op x y = None

-- the number that counts from a base, or else the number without one
abbrev pub on_base : Kind → Option Base → Valued ℕ → Valued ℕ → Valued Value
on_base class (Some b) from_base number =
    and_then from_base (λ n. Ok (record { number = n; class = class; base = b; part = Whole }))
on_base class None from_base number = and_then number (λ n. Ok (plain n class))

-- an operator between what two operands count as
abbrev pub of_numbers : Meanings → Binary → Value → Value → Valued ℕ
of_numbers names op x y = and_then (as_number names x) (λ a. and_then (as_number names y) (λ b. arithmetic op a b))

-- an operator between two values that are under no HIGH, LOW or dot
abbrev pub of_wholes : Meanings → Binary → Kind → Value → Value → Valued Value
of_wholes names op class x y =
    on_base class (base_of op x.base y.base) (arithmetic op x.number y.number) (of_numbers names op x y)

-- the same between any two settled values: one that is still under HIGH, LOW or the dot has a base, which is a fault
abbrev pub of_settled : Meanings → Binary → Kind → Value → Value → Valued Value
of_settled names op class x y =
    if is_whole x.part && is_whole y.part then of_wholes names op class (beside names y.base x) (beside names x.base y)
    else fault BASE_NOT_ALLOWED

-- an operator between two operands, but the dot
abbrev pub binary : Meanings → Binary → Value → Value → Valued Value
binary names op x y = of_settled names op (class_of op x.class y.class) (settled names x) (settled names y)

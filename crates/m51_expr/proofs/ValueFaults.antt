-- An expression without a value has E7, E8, E9 or E10.
use Rattle.std.proofs.Common.{ℕ, Bool, true, false, cond, Option, Some, None, Ok, Err, lit≤}
use Rattle.m51_cells.specs.declared.kind.Base.{Base}
use Rattle.m51_cells.specs.declared.kind.Kind.{Kind}
use Rattle.m51_expr.specs.declared.tree.Unary.{Unary}
use Rattle.m51_expr.specs.declared.tree.Unary.TheVariants as op1
use Rattle.m51_expr.specs.declared.tree.Binary.{Binary}
use Rattle.m51_expr.specs.declared.tree.Binary.TheVariants as op2
use Rattle.m51_expr.specs.declared.value.Part.TheVariants.{High, Low}
use Rattle.m51_expr.specs.declared.value.Value.{Value}
use Rattle.m51_cells.specs.Outcome.{and_then}
use Rattle.m51_expr.specs.Tree.{Number, Name, Here, One, Two}
use Rattle.m51_expr.specs.Value.{Valued, fault, bit_address, counted}
use Rattle.m51_expr.specs.Meanings.{Meanings, is_unplaced, as_number}
use Rattle.m51_expr.specs.Operators.{kept_under, or_number, unary, settled, beside, arithmetic, class_of, base_of}
use Rattle.m51_expr.specs.Operators.{on_base, of_numbers, of_wholes, of_settled, binary}
use Rattle.m51_expr.specs.Bits.{has_bits, with_bit, placed_bit, dotted_bit, dot}
use Rattle.m51_expr.specs.Evaluation.{is_dot, applied, or_unknown, value_of}
use Rattle.m51_expr.specs.FaultLaws.{IsFaultOfValue, FailsAsValue, ValuesFailByFour}

unknown_fails : IsFaultOfValue 7
unknown_fails = record { least = lit≤ tt; most = lit≤ tt }

base_fails : IsFaultOfValue 8
base_fails = record { least = lit≤ tt; most = lit≤ tt }

zero_fails : IsFaultOfValue 9
zero_fails = record { least = lit≤ tt; most = lit≤ tt }

bit_fails : IsFaultOfValue 10
bit_fails = record { least = lit≤ tt; most = lit≤ tt }

then_fails : {A B : Type 0} (r : Valued A) (go : A → Valued B) → FailsAsValue r → ((a : A) → FailsAsValue (go a))
    → FailsAsValue (and_then r go)
then_fails (Ok a) go h next = next a
then_fails (Err e) go h next = h

either_fails : {A : Type 0} (b : Bool) (x y : Valued A) → FailsAsValue x → FailsAsValue y → FailsAsValue (cond b x y)
either_fails true x y h k = h
either_fails false x y h k = k

number_fails : (names : Meanings) (v : Value) → FailsAsValue (as_number names v)
number_fails names v = either_fails (is_unplaced names v.base) (fault 8) (Ok (counted v)) base_fails tt

arithmetic_fails : (op : Binary) (a b : ℕ) → FailsAsValue (arithmetic op a b)
arithmetic_fails op2.Div a b = either_fails _ (fault 9) (Ok _) zero_fails tt
arithmetic_fails op2.Rem a b = either_fails _ (fault 9) (Ok _) zero_fails tt
arithmetic_fails op a b = tt

or_number_fails : (o : Option Value) (n : Valued ℕ) (f : ℕ → ℕ) → FailsAsValue n → FailsAsValue (or_number o n f)
or_number_fails (Some v) n f h = tt
or_number_fails None n f h = then_fails n _ h (λ m. tt)

unary_fails : (names : Meanings) (op : Unary) (v : Value) → FailsAsValue (unary names op v)
unary_fails names op1.High v = or_number_fails (kept_under High v) (as_number names v) _ (number_fails names v)
unary_fails names op1.Low v = or_number_fails (kept_under Low v) (as_number names v) _ (number_fails names v)
unary_fails names op1.Plus v = then_fails (as_number names v) _ (number_fails names v) (λ n. tt)
unary_fails names op1.Minus v = then_fails (as_number names v) _ (number_fails names v) (λ n. tt)
unary_fails names op1.Not v = then_fails (as_number names v) _ (number_fails names v) (λ n. tt)

on_base_fails : (class : Kind) (o : Option Base) (from_base number : Valued ℕ) → FailsAsValue from_base
    → FailsAsValue number → FailsAsValue (on_base class o from_base number)
on_base_fails class (Some b) from_base number h k = then_fails from_base _ h (λ n. tt)
on_base_fails class None from_base number h k = then_fails number _ k (λ n. tt)

numbers_fail : (names : Meanings) (op : Binary) (x y : Value) → FailsAsValue (of_numbers names op x y)
numbers_fail names op x y =
    then_fails (as_number names x) _ (number_fails names x)
    (λ a. then_fails (as_number names y) _ (number_fails names y) (λ b. arithmetic_fails op a b))

wholes_fail : (names : Meanings) (op : Binary) (class : Kind) (x y : Value)
    → FailsAsValue (of_wholes names op class x y)
wholes_fail names op class x y =
    on_base_fails class (base_of op x.base y.base) (arithmetic op x.number y.number) (of_numbers names op x y)
    (arithmetic_fails op x.number y.number) (numbers_fail names op x y)

settled_fails : (names : Meanings) (op : Binary) (class : Kind) (x y : Value)
    → FailsAsValue (of_settled names op class x y)
settled_fails names op class x y =
    either_fails _ (of_wholes names op class (beside names y.base x) (beside names x.base y)) (fault 8)
    (wholes_fail names op class (beside names y.base x) (beside names x.base y)) base_fails

placed_fails : (x : Value) (bit : ℕ) (o : Option ℕ) → FailsAsValue (placed_bit x bit o)
placed_fails x bit None = bit_fails
placed_fails x bit (Some address) = tt

bit_of_fails : (names : Meanings) (x : Value) (bit : ℕ) → FailsAsValue (dotted_bit names x bit)
bit_of_fails names x bit =
    let linked : Valued Value = cond (has_bits names x.base x.class) (Ok (with_bit x bit)) (fault 10) in
    let placed : Valued Value = placed_bit x bit (bit_address (counted x) bit) in
    either_fails _ (fault 10) (cond (is_unplaced names x.base) linked placed) bit_fails
    (either_fails (is_unplaced names x.base) linked placed
    (either_fails (has_bits names x.base x.class) (Ok (with_bit x bit)) (fault 10) tt bit_fails)
    (placed_fails x bit (bit_address (counted x) bit)))

dot_fails : (names : Meanings) (x n : Value) → FailsAsValue (dot names x n)
dot_fails names x n =
    either_fails _ (fault 8) (and_then (as_number names n) (dotted_bit names x)) base_fails
    (then_fails (as_number names n) (dotted_bit names x) (number_fails names n) (bit_of_fails names x))

applied_fails : (names : Meanings) (op : Binary) (x y : Value) → FailsAsValue (applied names op x y)
applied_fails names op x y =
    either_fails (is_dot op) (dot names x y) (binary names op x y) (dot_fails names x y)
    (settled_fails names op (class_of op x.class y.class) (settled names x) (settled names y))

unknown_name_fails : (o : Option Value) → FailsAsValue (or_unknown o)
unknown_name_fails (Some v) = tt
unknown_name_fails None = unknown_fails

pub values_fail_by_four : ValuesFailByFour
unfolding value_of
values_fail_by_four names (Number n) = tt
values_fail_by_four names Here = tt
values_fail_by_four names (Name name) = unknown_name_fails (names.value name)
values_fail_by_four names (One op inner) =
    then_fails (value_of names inner) (unary names op) (values_fail_by_four names inner) (unary_fails names op)
values_fail_by_four names (Two op left right) =
    then_fails (value_of names left) _ (values_fail_by_four names left) (λ x.
    then_fails (value_of names right) (applied names op x) (values_fail_by_four names right) (applied_fails names op x))

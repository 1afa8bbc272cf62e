-- An operand has E7 to E10 or E14, so no instruction of a mnemonic that may have its operands has E11.
use Rattle.std.proofs.Common.{ℕ, Option, Some, None, Ok, Err, refl, subst, sym, inl, inr}
use Rattle.m51_isa.specs.declared.instr.Instr.{Instr}
use Rattle.m51_isa.specs.declared.slot.Field.{Field}
use Rattle.m51_isa.specs.declared.slot.FieldSlot.{FieldSlot}
use Rattle.m51_isa.specs.Spelling.{field_in, text_of}
use Rattle.m51_isa.specs.Table.{length_of as row_length}
use Rattle.m51_expr.specs.declared.value.Value.{Value}
use Rattle.m51_expr.specs.Value.{Valued}
use Rattle.m51_expr.specs.Tree.{Tree}
use Rattle.m51_expr.specs.Meanings.{Meanings}
use Rattle.m51_expr.specs.Evaluation.{value_of}
use Rattle.m51_expr.specs.Operand.{OperandTree}
use Rattle.m51_expr.specs.FaultLaws.{FailsAsValue}
use Rattle.m51_expr.proofs.ValueFaults.{values_fail_by_four}
use Rattle.m51_encode.specs.declared.reference.FieldValue.{FieldValue}
use Rattle.m51_encode.specs.declared.filling.Held.{Held}
use Rattle.m51_encode.specs.JumpForm.{address_after}
use Rattle.m51_encode.specs.FieldValues.{field_of}
use Rattle.m51_encode.specs.Filling.{Answer, and_then, or_out_of_range, fielded, expression, filled_by, filled}
use Rattle.m51_encode.specs.Coding.{gathered, first_of, second_of, third_of}
use Rattle.m51_encode.specs.OutcomeLaws.{FailsAsOperand, OperandsFailByFive}
use Rattle.m51_encode.proofs.FormRows.{forms_have_rows}

pub then_fails : {A B : Type 0} (r : Answer A) (go : A → Answer B) → FailsAsOperand r
    → ((a : A) → FailsAsOperand (go a)) → FailsAsOperand (and_then r go)
then_fails (Ok a) go h next = next a
then_fails (Err e) go h next = h

pub range_fails : (o : Option FieldValue) → FailsAsOperand (or_out_of_range o)
range_fails (Some held) = tt
range_fails None = inr refl

pub fielded_fails : (names : Meanings) (next : ℕ) (at : Field) (value : Valued Value) → FailsAsValue value
    → FailsAsOperand (fielded names next at value)
fielded_fails names next at (Ok v) h = range_fails (field_of names at next v)
fielded_fails names next at (Err e) h = inl h

pub expression_fails : (names : Meanings) (next : ℕ) (slot : FieldSlot) (t : Option Tree)
    → FailsAsOperand (filled_by names next slot t)
expression_fails names next slot (Some t) =
    then_fails (fielded names next slot.field (value_of names t)) _
    (fielded_fails names next slot.field (value_of names t) (values_fail_by_four names t)) (λ held. tt)
expression_fails names next slot None = tt

pub filled_fails : (names : Meanings) (next : ℕ) (field : Option FieldSlot) (o : Option OperandTree)
    → FailsAsOperand (filled names next field o)
filled_fails names next (Some slot) (Some operand) = expression_fails names next slot (expression operand)
filled_fails names next (Some slot) None = tt
filled_fails names next None o = tt

gathered_fails : (row : Instr) (x y z : Answer Held) → FailsAsOperand x → FailsAsOperand y → FailsAsOperand z
    → FailsAsOperand (gathered row x y z)
gathered_fails row x y z h k l =
    then_fails x _ h (λ a. then_fails y _ k (λ b. then_fails z _ l (λ c. tt)))

pub operands_fail_by_five : OperandsFailByFive
operands_fail_by_five names mnemonic operands may form =
    let has = forms_have_rows mnemonic operands may form in
    let row : Instr = has.row in
    let next : ℕ = address_after names (row_length row) in
    subst FailsAsOperand (sym (has.code names))
    (gathered_fails row (first_of names row has.line.first) (second_of names row has.line.second)
    (third_of names row has.line.third)
    (filled_fails names next (field_in (text_of row).first) has.line.first)
    (filled_fails names next (field_in (text_of row).second) has.line.second)
    (filled_fails names next (field_in (text_of row).third) has.line.third))

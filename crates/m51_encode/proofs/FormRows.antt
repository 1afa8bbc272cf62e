-- Each instruction that can be read has a row, and the length of that row.
use Rattle.std.proofs.Common.{◌≡◌, ℕ, true, List, [], ◌∷◌, Option, Some, None, refl, ap, subst, sym, ◌∙◌}
use Rattle.std.specs.Prelude.{IfOk, is_some, option_map, option_and_then}
use Rattle.m51_isa.specs.declared.instr.Instr.{Instr}
use Rattle.m51_isa.specs.declared.generics.Jump.{Jump}
use Rattle.m51_isa.specs.Table.{length_of as row_length}
use Rattle.m51_isa.specs.Spelling.{field_in, text_of}
use Rattle.m51_isa.proofs.FoundMnemonics.{row_in_each_form}
use Rattle.m51_isa.proofs.RowsFilled.{texts_are_rows}
use Rattle.m51_expr.specs.Meanings.{Meanings}
use Rattle.m51_expr.specs.Operand.{OperandTree}
use Rattle.m51_encode.specs.JumpForm.{address_after}
use Rattle.m51_encode.specs.declared.coding.Coded.{Coded}
use Rattle.m51_encode.specs.Filling.{Answer, filled}
use Rattle.m51_encode.specs.Coding.{Line, instruction_line, line_row, coded_in, coded_by, coded_line, coded}
use Rattle.m51_encode.specs.Coding.{outcomes_by}
use Rattle.m51_encode.specs.Coding.{outcomes_line, outcomes, length_of}
use Rattle.m51_encode.specs.Lengths.{HasRow, FormsHaveRows}
use Rattle.m51_encode.proofs.Standing.{then_ok}

-- the bytes of a row have its length, whatever the numbers in them
coded_length : (names : Meanings) (a b c : Option OperandTree) (row : Instr)
    → IfOk (coded_in names a b c row) (λ x. x.code.len ≡ row_length row)
coded_length names a b c row =
    let P : Coded → Type 0 = λ x. x.code.len ≡ row_length row in
    let next : ℕ = address_after names (row_length row) in
    then_ok (filled names next (field_in (text_of row).first) a) _ P (λ x in_first.
    then_ok (filled names next (field_in (text_of row).second) b) _ P (λ y in_second.
    then_ok (filled names next (field_in (text_of row).third) c) _ P (λ z in_third.
    (texts_are_rows.filled row x.number y.number z.number).length)))

of_row : (mnemonic : List ℕ) (operands : List OperandTree) (form : Jump) (l : Line) (o : Option Instr)
    → instruction_line mnemonic operands form ≡ Some l → line_row l ≡ o → is_some o ≡ true
    → HasRow mnemonic operands form
unfolding coded outcomes length_of
of_row mnemonic operands form l None is found h = absurd (cc h)
of_row mnemonic operands form l (Some row) is found h =
    let code : (names : Meanings) → coded names mnemonic operands form ≡ coded_in names l.first l.second l.third row =
    λ names. ap (coded_line names) is ∙ ap (coded_by names l) found in
    let P : Answer Coded → Type 0 = λ x. IfOk x (λ c. c.code.len ≡ row_length row) in
    record {
      line = l;
      is = is;
      row = row;
      length = ap (λ x. option_map row_length (option_and_then line_row x)) is ∙ ap (option_map row_length) found;
      code = code;
      comes_to = λ names. ap (outcomes_line names) is ∙ ap (outcomes_by names l) found;
      same = λ names. subst P (sym (code names)) (coded_length names l.first l.second l.third row);
    }

of_line : (mnemonic : List ℕ) (operands : List OperandTree) (form : Jump) (l : Line)
    → instruction_line mnemonic operands form ≡ Some l → is_some (line_row l) ≡ true → HasRow mnemonic operands form
of_line mnemonic operands form l is h = of_row mnemonic operands form l (line_row l) is refl h

pub forms_have_rows : FormsHaveRows
forms_have_rows m [] h form = of_line m [] form _ refl (row_in_each_form m form _ _ _ h)
forms_have_rows m (a ∷ []) h form = of_line m (a ∷ []) form _ refl (row_in_each_form m form _ _ _ h)
forms_have_rows m (a ∷ b ∷ []) h form = of_line m (a ∷ b ∷ []) form _ refl (row_in_each_form m form _ _ _ h)
forms_have_rows m (a ∷ b ∷ c ∷ []) h form = of_line m (a ∷ b ∷ c ∷ []) form _ refl (row_in_each_form m form _ _ _ h)
forms_have_rows m (a ∷ b ∷ c ∷ d ∷ more) h form = absurd (cc h)

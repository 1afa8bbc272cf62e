-- Each instruction that can be read has a row, and the length of the row, in any form of a generic jump.
use Rattle.std.specs.Prelude.{◌≡◌, ℕ, IsTrue, IfOk, List, Some}
use Rattle.m51_isa.specs.declared.instr.Instr.{Instr}
use Rattle.m51_isa.specs.declared.generics.Jump.{Jump}
use Rattle.m51_isa.specs.Table.{length_of as row_length}
use Rattle.m51_expr.specs.Meanings.{Meanings}
use Rattle.m51_expr.specs.Operand.{OperandTree}
use Rattle.m51_expr.specs.Looks.{has_form}
use Rattle.m51_encode.specs.Coding.{Line, instruction_line, coded_in, coded, outcomes_in, outcomes, length_of}

-- An instruction has the length of a row. Its code and the outcomes of its operands are those of the row, so it is not
-- E11 for lack of one, and it has as many bytes.
pub record HasRow (mnemonic : List ℕ) (operands : List OperandTree) (form : Jump) : Type 0 where
  pub line : Line
  pub is : instruction_line mnemonic operands form ≡ Some line
  pub row : Instr
  pub length : length_of mnemonic operands form ≡ Some (row_length row)
  pub code : (names : Meanings) →
      coded names mnemonic operands form ≡ coded_in names line.first line.second line.third row
  pub comes_to : (names : Meanings) →
      outcomes names mnemonic operands form ≡ outcomes_in names line.first line.second line.third row
  pub same : (names : Meanings) → IfOk (coded names mnemonic operands form) (λ c. c.code.len ≡ row_length row)

-- Each mnemonic with operands that it may have has a row in each form that a generic jump may take.
abbrev pub FormsHaveRows : Type 0
FormsHaveRows =
    (mnemonic : List ℕ) (operands : List OperandTree) → IsTrue (has_form mnemonic operands)
    → (form : Jump) → HasRow mnemonic operands form

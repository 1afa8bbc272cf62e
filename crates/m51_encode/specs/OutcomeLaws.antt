-- What the outcomes of operands promise.
use Rattle.std.specs.Prelude.{◌≡◌, ◌⊎◌, ℕ, IsTrue, IsOk, IfErr, List, Option, Some, None}
use Rattle.m51_isa.specs.declared.generics.Jump.{Jump}
use Rattle.m51_expr.specs.Meanings.{Meanings}
use Rattle.m51_expr.specs.Operand.{OperandTree}
use Rattle.m51_expr.specs.Looks.{has_form}
use Rattle.m51_expr.specs.FaultLaws.{IsFaultOfValue}
use Rattle.m51_cells.specs.declared.fault.TheConstants.{OUT_OF_RANGE}
use Rattle.m51_encode.specs.declared.coding.Coded.{Coded}
use Rattle.m51_encode.specs.Filling.{Answer, coding_fault}
use Rattle.m51_encode.specs.Outcomes.{first_faulty}
use Rattle.m51_encode.specs.Coding.{coded, outcomes}

-- the answer is this fault, or where there is none it has bytes
abbrev pub IsFaultOrCoded : Option ℕ → Answer Coded → Type 0
IsFaultOrCoded (Some number) answer = answer ≡ coding_fault number
IsFaultOrCoded None answer = IsOk answer

-- A mnemonic with operands that it may have has a fault exactly if one of them has, and that of the leftmost.
abbrev pub OutcomesTell : Type 0
OutcomesTell =
    (names : Meanings) (mnemonic : List ℕ) (operands : List OperandTree) → IsTrue (has_form mnemonic operands)
    → (form : Jump)
    → IsFaultOrCoded (first_faulty (outcomes names mnemonic operands form)) (coded names mnemonic operands form)

-- the fault, if there is one, is E7 to E10 or E14
abbrev pub FailsAsOperand : {A : Type 0} → Answer A → Type 0
FailsAsOperand answer = IfErr answer (λ error. IsFaultOfValue error.number ⊎ (error.number ≡ OUT_OF_RANGE))

-- A mnemonic with operands that it may have has one of these faults or none: so it is not E11.
abbrev pub OperandsFailByFive : Type 0
OperandsFailByFive =
    (names : Meanings) (mnemonic : List ℕ) (operands : List OperandTree) → IsTrue (has_form mnemonic operands)
    → (form : Jump) → FailsAsOperand (coded names mnemonic operands form)

-- What an instruction of a source gives is found by its row.
use Rattle.std.proofs.Common.{◌≡◌, ℕ, List, [], ◌∷◌, refl}
use Rattle.std.specs.Prelude.{slice_get}
use Rattle.m51_isa.specs.declared.generics.Jump.{Jump}
use Rattle.m51_expr.specs.Operand.{OperandTree}
use Rattle.m51_expr.specs.Meanings.{Meanings}
use Rattle.m51_encode.specs.Coding.{Line, line, row_of, coded_by, coded, outcomes_by, outcomes}

-- an instruction of a source with its first three operands
abbrev pub leading : List ℕ → List OperandTree → Jump → Line
leading mnemonic operands jump =
    line mnemonic jump (slice_get operands 0) (slice_get operands 1) (slice_get operands 2)

-- the answer is that of the row
pub coded_by_row : (names : Meanings) (mnemonic : List ℕ) (operands : List OperandTree) (jump : Jump)
    → coded names mnemonic operands jump
    ≡ coded_by names (leading mnemonic operands jump) (row_of mnemonic operands jump)
unfolding coded
coded_by_row names mnemonic (a ∷ b ∷ c ∷ []) jump = refl
coded_by_row names mnemonic operands jump = refl

-- so are the outcomes
pub outcomes_by_row : (names : Meanings) (mnemonic : List ℕ) (operands : List OperandTree) (jump : Jump)
    → outcomes names mnemonic operands jump
    ≡ outcomes_by names (leading mnemonic operands jump) (row_of mnemonic operands jump)
unfolding outcomes
outcomes_by_row names mnemonic (a ∷ b ∷ c ∷ []) jump = refl
outcomes_by_row names mnemonic operands jump = refl

pub ruleset by_row = (coded_by_row, outcomes_by_row)

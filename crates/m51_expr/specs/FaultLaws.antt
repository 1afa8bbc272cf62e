-- What faults a value may have.
use Rattle.std.specs.Prelude.{ℕ, ◌≤◌, IfErr}
use Rattle.m51_cells.specs.declared.fault.TheConstants.{UNKNOWN_NAME, NO_BIT}
use Rattle.m51_expr.specs.Tree.{Tree}
use Rattle.m51_expr.specs.Value.{Valued}
use Rattle.m51_expr.specs.Meanings.{Meanings}
use Rattle.m51_expr.specs.Evaluation.{value_of}

-- E7 to E10
pub record IsFaultOfValue (number : ℕ) : Type 0 where
  pub least : UNKNOWN_NAME ≤ number
  pub most : number ≤ NO_BIT

-- the fault, if there is one, is one of these
abbrev pub FailsAsValue : {A : Type 0} → Valued A → Type 0
FailsAsValue valued = IfErr valued (λ error. IsFaultOfValue error.number)

-- An expression without a value has one of these faults.
abbrev pub ValuesFailByFour : Type 0
ValuesFailByFour = (names : Meanings) (e : Tree) → FailsAsValue (value_of names e)

-- The operand of a line, evaluated by the names that are defined above it.
use Rattle.std.specs.Prelude.{◌≡◌, ℕ, Option, Some, None}
use Rattle.m51_expr.specs.declared.value.Value.{Value}
use Rattle.m51_expr.specs.Meanings.{Meanings}
use Rattle.m51_stmt.specs.Statement.{BodyTree, Ds, Dbit, Org, Rseg, Select}
use Rattle.m51_asm.specs.declared.operands.Evaluated.{Evaluated}
use Rattle.m51_asm.specs.declared.operands.Evaluated.TheVariants as operand
use Rattle.m51_asm.specs.Assignment.{number_or_zero}
use Rattle.m51_expr.specs.Located.{located_value}

abbrev pub evaluated_fault : Evaluated → Option ℕ
evaluated_fault (operand.Fault number) = Some number
evaluated_fault o = None

-- the count or the base, 0 where it is neither
abbrev pub number_in : Evaluated → ℕ
number_in (operand.Number number) = number
number_in o = 0

-- the id of the segment of RSEG
abbrev pub segment_named : Evaluated → Option ℕ
segment_named (operand.Segment id) = Some id
segment_named o = None

-- that id, where the line is an RSEG
abbrev pub if_rseg : Option ℕ → BodyTree → Option ℕ
if_rseg named (Rseg name) = named
if_rseg named body = None

-- the value that the line gives its name
abbrev pub given_in : Evaluated → Option Value
given_in (operand.Value v) = Some (located_value v)
given_in o = None

-- the bank after the line, by that before it
abbrev pub bank_in : ℕ → Evaluated → ℕ
bank_in before (operand.Bank bank) = bank
bank_in before o = before

-- the count of DS or DBIT, or the base of ORG or AT, 0 where it has a fault
abbrev pub operand_number : Meanings → BodyTree → ℕ
operand_number names (Ds e) = number_or_zero names e
operand_number names (Dbit e) = number_or_zero names e
operand_number names (Org e) = number_or_zero names e
operand_number names (Select kind (Some e)) = number_or_zero names e
operand_number names body = 0

-- An operand with this fault and this number; where it has no fault, with this value and this bank after the line.
pub record IsOperand (fault : Option ℕ) (number : ℕ) (given : Option Value) (bank : ℕ → ℕ) (o : Evaluated)
    : Type 0 where
  pub fault_is : evaluated_fault o ≡ fault
  pub number_is : number_in o ≡ number
  pub given_is : fault ≡ None → given_in o ≡ given
  pub bank_is : fault ≡ None → (before : ℕ) → bank_in before o ≡ bank before

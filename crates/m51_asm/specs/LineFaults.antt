-- The fault of an operand by the lines above it, as the code finds it.
use Rattle.std.specs.Prelude.{◌≡◌, List, ℕ, ◌||◌, Bool, if◌then◌else◌, Option, Some, None, is_some}
use Rattle.m51_cells.specs.declared.fault.TheConstants.{UNKNOWN_NAME, OUT_OF_RANGE}
use Rattle.m51_cells.specs.declared.kind.Kind.{Kind}
use Rattle.m51_cells.specs.declared.kind.Kind.TheVariants as kind
use Rattle.m51_cells.specs.Kinds.{same_kind}
use Rattle.m51_expr.specs.declared.value.Value.{Value}
use Rattle.m51_expr.specs.Meanings.{Meanings}
use Rattle.m51_expr.specs.Evaluation.{value_of}
use Rattle.m51_stmt.specs.Statement.{BodyTree, Ds, Dbit, Org, Using, Rseg, Select, Equ, Set, Address}
use Rattle.m51_text.specs.Answer.{LineTree}
use Rattle.m51_asm.specs.Assignment.{numbered}
use Rattle.m51_asm.specs.Fitting.{declared}
use Rattle.m51_asm.specs.PlacedFaults.{fault_in, address_fault, bank_fault, operand_fault}
use Rattle.m51_asm.specs.OpenSegments.{named_by}

-- the class of the kind, or none
abbrev pub has_class : Value → Kind → Bool
has_class v wanted = same_kind v.class wanted || same_kind v.class kind.Number

-- the fault of RSEG, by whether the name is a segment declared above and whether it has a value there
abbrev pub segment_fault_by : Bool → Bool → Option ℕ
segment_fault_by is_segment has_value =
    if is_segment then None else (if has_value then Some OUT_OF_RANGE else Some UNKNOWN_NAME)

-- the fault of an operand, by whether the name of an RSEG is a segment declared above
abbrev pub operand_fault_by : Meanings → Bool → BodyTree → Option ℕ
operand_fault_by names is_segment (Equ name e) = fault_in (value_of names e)
operand_fault_by names is_segment (Set name e) = fault_in (value_of names e)
operand_fault_by names is_segment (Address name kind e) = address_fault names kind (value_of names e)
operand_fault_by names is_segment (Ds e) = fault_in (numbered names e)
operand_fault_by names is_segment (Dbit e) = fault_in (numbered names e)
operand_fault_by names is_segment (Org e) = fault_in (numbered names e)
operand_fault_by names is_segment (Select kind (Some e)) = fault_in (numbered names e)
operand_fault_by names is_segment (Using e) = bank_fault (numbered names e)
operand_fault_by names is_segment (Rseg name) = segment_fault_by is_segment (is_some (names.value name))
operand_fault_by names is_segment body = None

-- The fault of an operand follows from whether the name of an RSEG is a segment declared above.
abbrev pub OperandIsTold : Type 0
OperandIsTold =
    (lines : List LineTree) (names : Meanings) (k : ℕ) (body : BodyTree)
    → operand_fault_by names (is_some (named_by (λ name. declared lines name k) body)) body
    ≡ operand_fault lines names k body

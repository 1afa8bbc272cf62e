-- What is promised of the content of lines.
use Rattle.std.specs.Prelude.{◌≡◌, ◌⊎◌, ℕ, ◌*◌, IsTrue, IsOk, IfSome, List, length, unwrap_or, None}
use Rattle.m51_cells.specs.declared.fault.TheConstants.{OUT_OF_RANGE, TOO_MANY}
use Rattle.m51_isa.specs.declared.generics.Jump.{Jump}
use Rattle.m51_expr.specs.FaultLaws.{IsFaultOfValue}
use Rattle.m51_expr.specs.Looks.{has_form}
use Rattle.m51_expr.specs.Meanings.{Meanings}
use Rattle.m51_expr.specs.Operand.{OperandTree, ItemTree}
use Rattle.m51_encode.specs.Coding.{coded, length_of}
use Rattle.m51_stmt.specs.Statement.{BodyTree, Code, Db, Dw}
use Rattle.m51_emit.specs.Content.{content_by, outcomes_by}
use Rattle.m51_emit.specs.Outcomes.{leftmost_fault}
use Rattle.m51_emit.specs.Sizes.{items_size, AreValues}
use Rattle.m51_emit.specs.Within.{LieInside}

-- The references of a line lie in its bytes.
abbrev pub ReferencesLie : Type 0
ReferencesLie =
    (names : Meanings) (jump : Jump) (body : BodyTree)
    → LieInside (length (content_by names jump body).bytes) (content_by names jump body).references

-- no part of a line has a fault, with `made` fixups before it
pub record HasNoFault (names : Meanings) (jump : Jump) (body : BodyTree) (made : ℕ) : Type 0 where
  pub is : leftmost_fault made (outcomes_by names jump body) ≡ None

-- An instruction of a mnemonic that may have these operands has bytes where it has no fault: it is never E11.
abbrev pub InstructionsAreCoded : Type 0
InstructionsAreCoded =
    (names : Meanings) (jump : Jump) (mnemonic : List ℕ) (operands : List OperandTree) (made : ℕ)
    → IsTrue (has_form mnemonic operands) → HasNoFault names jump (Code mnemonic operands) made
    → IsOk (coded names mnemonic operands jump)

-- Such an instruction has as many bytes as its row.
abbrev pub InstructionsFill : Type 0
InstructionsFill =
    (names : Meanings) (jump : Jump) (mnemonic : List ℕ) (operands : List OperandTree) (made : ℕ)
    → IsTrue (has_form mnemonic operands) → HasNoFault names jump (Code mnemonic operands) made
    → length (content_by names jump (Code mnemonic operands)).bytes ≡ unwrap_or (length_of mnemonic operands jump) 0

-- DB without a fault has a byte for each value, and the characters of its texts.
abbrev pub BytesFill : Type 0
BytesFill =
    (names : Meanings) (jump : Jump) (items : List ItemTree) (made : ℕ) → HasNoFault names jump (Db items) made
    → length (content_by names jump (Db items)).bytes ≡ items_size items

-- DW of values without a fault has two bytes for each.
abbrev pub WordsFill : Type 0
WordsFill =
    (names : Meanings) (jump : Jump) (words : List ItemTree) (made : ℕ)
    → AreValues words → HasNoFault names jump (Dw words) made
    → length (content_by names jump (Dw words)).bytes ≡ 2 * length words

-- E7 to E10, E14 or E19
abbrev pub IsFaultOfContent : ℕ → Type 0
IsFaultOfContent number = IsFaultOfValue number ⊎ ((number ≡ OUT_OF_RANGE) ⊎ (number ≡ TOO_MANY))

-- The fault of the content of a line is one of these.
abbrev pub ContentFailsBySix : Type 0
ContentFailsBySix =
    (names : Meanings) (jump : Jump) (body : BodyTree) (made : ℕ)
    → IfSome (leftmost_fault made (outcomes_by names jump body)) IsFaultOfContent

-- What the operands of a line give in the fields of its row.
use Rattle.std.specs.Prelude.{ℕ, ◌==◌, if◌then◌else◌, List, [], ◌∷◌, Option, Some, None, Result, Ok, Err}
use Rattle.std.specs.Option.{option_or}
pub use Rattle.m51_cells.specs.Outcome.{and_then}
use Rattle.m51_cells.specs.declared.fault.TheConstants.{OUT_OF_RANGE}
use Rattle.m51_expr.specs.declared.value.Value.{Value}
use Rattle.m51_expr.specs.Tree.{Tree}
use Rattle.m51_expr.specs.Value.{Valued}
use Rattle.m51_expr.specs.Meanings.{Meanings}
use Rattle.m51_expr.specs.Evaluation.{value_of}
use Rattle.m51_expr.specs.Operand.{OperandTree, Imm, Plain, NotBit}
use Rattle.m51_encode.specs.declared.reference.Reference.{Reference}
use Rattle.m51_isa.specs.declared.slot.Field.{Field}
use Rattle.m51_isa.specs.declared.slot.FieldSlot.{FieldSlot}
use Rattle.m51_encode.specs.declared.reference.FieldValue.{FieldValue}
use Rattle.m51_encode.specs.declared.reference.FieldValue.TheVariants.{Number, Linked}
use Rattle.m51_encode.specs.FieldValues.{field_of}
use Rattle.m51_encode.specs.declared.filling.Held.{Held}
use Rattle.m51_encode.specs.declared.filling.CodingError.{CodingError}

-- a result, or a fault
abbrev pub Answer : Type 0 → Type 0
Answer A = Result A CodingError

-- the fault of this number
abbrev pub coding_fault : {A : Type 0} → ℕ → Answer A
coding_fault k = Err (record { number = k })

-- an operand without a field
abbrev pub nothing : Held
nothing = record { number = 0; byte = 0; reference = None }

-- a value that has no field is out of its range or class
abbrev pub or_out_of_range : Option FieldValue → Answer FieldValue
or_out_of_range (Some held) = Ok held
or_out_of_range None = coding_fault OUT_OF_RANGE

-- what a value gives in a field, with the address after the statement
abbrev pub fielded : Meanings → ℕ → Field → Valued Value → Answer FieldValue
fielded names next at (Ok v) = or_out_of_range (field_of names at next v)
fielded names next at (Err e) = coding_fault e.number

-- a field that begins at a byte: its number, and 0 where the linker fills it in
abbrev pub held_at : ℕ → FieldValue → Held
held_at byte (Number n) = record { number = n; byte = byte; reference = None }
held_at byte (Linked r) = record { number = 0; byte = byte; reference = Some r }

-- what a value gives in the field that begins at a byte
abbrev pub valued : Meanings → ℕ → Field → ℕ → Valued Value → Answer Held
valued names next at byte value = and_then (fielded names next at value) (λ held. Ok (held_at byte held))

-- the expression of an operand
abbrev pub expression : OperandTree → Option Tree
expression (Imm e) = Some e
expression (Plain e) = Some e
expression (NotBit e) = Some e
expression operand = None

-- what the expression of an operand gives in the field
abbrev pub filled_by : Meanings → ℕ → FieldSlot → Option Tree → Answer Held
filled_by names next slot (Some e) = valued names next slot.field slot.byte (value_of names e)
filled_by names next slot None = Ok nothing

-- what an operand of the line gives in the field of the operand of the row
abbrev pub filled : Meanings → ℕ → Option FieldSlot → Option OperandTree → Answer Held
filled names next (Some slot) (Some operand) = filled_by names next slot (expression operand)
filled names next slot operand = Ok nothing

-- the reference of a field that begins at this byte
abbrev pub beginning_at : ℕ → Held → Option Reference
beginning_at byte f = if f.byte == byte then f.reference else None

-- the reference of the operand whose field begins at this byte
abbrev pub reference_at : ℕ → Held → Held → Held → Option Reference
reference_at byte a b c = option_or (beginning_at byte a) (option_or (beginning_at byte b) (beginning_at byte c))

-- the references of three operands by the byte where their fields begin
abbrev pub references_of : Held → Held → Held → List (Option Reference)
references_of a b c = reference_at 0 a b c ∷ reference_at 1 a b c ∷ reference_at 2 a b c ∷ []

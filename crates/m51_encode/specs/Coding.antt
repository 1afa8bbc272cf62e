-- The bytes and references of an instruction of a source.
use denote.Ref.{Bor}
use Rattle.std.specs.Prelude.{ℕ, List, [], ◌∷◌, Option, Some, None, Ok, option_map, option_and_then}
use Rattle.std.specs.Option.{option_copied}
use Rattle.m51_isa.specs.declared.instr.Instr.{Instr}
use Rattle.m51_isa.specs.declared.look.Look.{Look}
use Rattle.m51_isa.specs.declared.look.Look.TheVariants.{Nothing}
use Rattle.m51_isa.specs.declared.generics.Jump.{Jump}
use Rattle.m51_isa.specs.Table.{encoded, code_of, length_of as row_length}
use Rattle.m51_isa.specs.Spelling.{field_in, text_of}
use Rattle.m51_isa.specs.Search.{row_for}
use Rattle.m51_isa.specs.Filling.{with_numbers}
use Rattle.m51_cells.specs.declared.fault.TheConstants.{NO_INSTRUCTION}
use Rattle.m51_expr.specs.Meanings.{Meanings}
use Rattle.m51_expr.specs.declared.operand.Operand.{Operand}
use Rattle.m51_expr.specs.Operand.{OperandTree, operand_tree}
use Rattle.m51_expr.specs.Looks.{look_of}
use Rattle.m51_encode.specs.declared.coding.Coded.{Coded}
use Rattle.m51_encode.specs.declared.filling.Held.{Held}
use Rattle.m51_encode.specs.JumpForm.{address_after}
use Rattle.m51_encode.specs.declared.outcome.OperandOutcome.{OperandOutcome}
use Rattle.m51_encode.specs.declared.outcome.OperandOutcome.TheVariants.{Stands}
use Rattle.m51_encode.specs.Filling.{Answer, and_then, coding_fault, filled, references_of}
use Rattle.m51_encode.specs.Outcomes.{operand_outcome}

-- the tree of a borrowed operand, if there is one
abbrev pub seen : Option (Bor Operand) → Option OperandTree
seen operand = option_map operand_tree (option_copied operand)

-- what an operand looks like, or that there is none
abbrev pub look_in : Option OperandTree → Look
look_in (Some operand) = look_of operand
look_in None = Nothing

-- an instruction of a source: its mnemonic, the form of a generic jump, and its operands
pub record Line : Type 0 where
  pub mnemonic : List ℕ
  pub jump : Jump
  pub first : Option OperandTree
  pub second : Option OperandTree
  pub third : Option OperandTree

abbrev pub line : List ℕ → Jump → Option OperandTree → Option OperandTree → Option OperandTree → Line
line mnemonic jump first second third =
    record { mnemonic = mnemonic; jump = jump; first = first; second = second; third = third }

-- no instruction has more than three operands
abbrev pub instruction_line : List ℕ → List OperandTree → Jump → Option Line
instruction_line mnemonic [] jump = Some (line mnemonic jump None None None)
instruction_line mnemonic (a ∷ []) jump = Some (line mnemonic jump (Some a) None None)
instruction_line mnemonic (a ∷ b ∷ []) jump = Some (line mnemonic jump (Some a) (Some b) None)
instruction_line mnemonic (a ∷ b ∷ c ∷ []) jump = Some (line mnemonic jump (Some a) (Some b) (Some c))
instruction_line mnemonic more jump = None

-- the row of a line, with 0 in each field
abbrev pub line_row : Line → Option Instr
line_row l = row_for l.mnemonic l.jump (look_in l.first) (look_in l.second) (look_in l.third)

-- the row of an instruction of a source, with 0 in each field, if the table has one
abbrev pub row_of : List ℕ → List OperandTree → Jump → Option Instr
row_of mnemonic operands jump = option_and_then line_row (instruction_line mnemonic operands jump)

-- the bytes of a row with the numbers that the operands gave, and the references in its fields
abbrev pub coded_as : Instr → Held → Held → Held → Coded
coded_as row a b c =
    record { code = code_of (encoded (with_numbers row a.number b.number c.number)); references = references_of a b c }

-- the code of a row, where each operand gives something in its field
abbrev pub gathered : Instr → Answer Held → Answer Held → Answer Held → Answer Coded
gathered row first second third =
    and_then first (λ a. and_then second (λ b. and_then third (λ c. Ok (coded_as row a b c))))

-- what the first operand gives in its field of a row
abbrev pub first_of : Meanings → Instr → Option OperandTree → Answer Held
first_of names row operand = filled names (address_after names (row_length row)) (field_in (text_of row).first) operand

-- what the second operand gives
abbrev pub second_of : Meanings → Instr → Option OperandTree → Answer Held
second_of names row operand =
    filled names (address_after names (row_length row)) (field_in (text_of row).second) operand

-- what the third operand gives
abbrev pub third_of : Meanings → Instr → Option OperandTree → Answer Held
third_of names row operand = filled names (address_after names (row_length row)) (field_in (text_of row).third) operand

-- the operands fill the fields of the row from left to right
abbrev pub coded_in : Meanings → Option OperandTree → Option OperandTree → Option OperandTree → Instr → Answer Coded
coded_in names a b c row = gathered row (first_of names row a) (second_of names row b) (third_of names row c)

-- the answer for the row of a line, if it has one
abbrev pub coded_by : Meanings → Line → Option Instr → Answer Coded
coded_by names l (Some row) = coded_in names l.first l.second l.third row
coded_by names l None = coding_fault NO_INSTRUCTION

-- the answer for a line, if it has no more than three operands
abbrev pub coded_line : Meanings → Option Line → Answer Coded
coded_line names (Some l) = coded_by names l (line_row l)
coded_line names None = coding_fault NO_INSTRUCTION

-- The answer for an instruction of a source: E11 where the table has no such row, else the fault of the leftmost
-- operand that has one, E7 to E10 or E14, else its bytes and references.
unfoldable pub coded : Meanings → List ℕ → List OperandTree → Jump → Answer Coded
coded names mnemonic operands jump = coded_line names (instruction_line mnemonic operands jump)

-- the outcomes of three operands
abbrev pub three_outcomes : Answer Held → Answer Held → Answer Held → List OperandOutcome
three_outcomes a b c = operand_outcome a ∷ operand_outcome b ∷ operand_outcome c ∷ []

-- the outcomes of the operands in the fields of the row
abbrev pub outcomes_in : Meanings → Option OperandTree → Option OperandTree → Option OperandTree → Instr
    → List OperandOutcome
outcomes_in names a b c row = three_outcomes (first_of names row a) (second_of names row b) (third_of names row c)

-- the same for the row of a line, if it has one
abbrev pub outcomes_by : Meanings → Line → Option Instr → List OperandOutcome
outcomes_by names l (Some row) = outcomes_in names l.first l.second l.third row
outcomes_by names l None = Stands ∷ Stands ∷ Stands ∷ []

-- the same for a line, if it has no more than three operands
abbrev pub outcomes_line : Meanings → Option Line → List OperandOutcome
outcomes_line names (Some l) = outcomes_by names l (line_row l)
outcomes_line names None = Stands ∷ Stands ∷ Stands ∷ []

-- The outcomes of the operands of an instruction of a source, from left to right; `Stands` for one that is missing.
unfoldable pub outcomes : Meanings → List ℕ → List OperandTree → Jump → List OperandOutcome
outcomes names mnemonic operands jump = outcomes_line names (instruction_line mnemonic operands jump)

-- the length of an instruction of a source, whatever the values of its operands
unfoldable pub length_of : List ℕ → List OperandTree → Jump → Option ℕ
length_of mnemonic operands jump = option_map row_length (row_of mnemonic operands jump)

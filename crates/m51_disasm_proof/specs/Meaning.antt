-- What each line of a disassembly says, as the assembler reads it.
use Rattle.std.specs.Prelude.{ℕ, ◌+◌, ◌%◌, false, List, [], ◌∷◌, Option, Some, None, option_map}
use Rattle.std.specs.List.{cons_option}
use Rattle.m51_cells.specs.declared.kind.Kind.TheVariants as kind
use Rattle.m51_isa.specs.declared.slot.Field.{Field}
use Rattle.m51_isa.specs.declared.slot.Field.TheVariants as field
use Rattle.m51_isa.specs.declared.slot.Slot.{Slot}
use Rattle.m51_isa.specs.declared.slot.Slot.TheVariants as slot
use Rattle.m51_isa.specs.Spelling.{Text, text_of}
use Rattle.m51_expr.specs.Tree.{Number, Name}
use Rattle.m51_stmt.specs.Statement.{OperandTree, A, Ab, C, Dptr, APc, ADptr, AtDptr, R, AtR, Imm, Plain, NotBit}
use Rattle.m51_stmt.specs.Statement.{BodyTree, Mod51, Select, End, Db, Code, Value, StmtTree}
use Rattle.m51_text.specs.Answer.{LineTree}
use Rattle.m51_disasm.specs.declared.line.SourceLine.{SourceLine}
use Rattle.m51_disasm.specs.declared.line.SourceLine.TheVariants as line
use Rattle.m51_disasm.specs.declared.line.Target.{Target}
use Rattle.m51_disasm.specs.declared.line.Target.TheVariants as target
use Rattle.m51_disasm.specs.declared.statement.Content.{Content}
use Rattle.m51_disasm.specs.declared.statement.Content.TheVariants as content
use Rattle.m51_disasm.specs.Texts.{label_text}

-- the number after #: of two bytes if the field has two
abbrev pub data_number : Field → ℕ → ℕ
data_number field.Data16 number = number
data_number other number = number % 256

-- the operand of a target: the name of its label, or its address
abbrev pub target_operand : Target → Option OperandTree
target_operand target.Nowhere = None
target_operand (target.Label address) = Some (Plain (Name (label_text address)))
target_operand (target.Number address) = Some (Plain (Number address))

-- the operand of an address: a byte, or the target
abbrev pub address_operand : Target → Field → ℕ → Option OperandTree
address_operand target field.Direct number = Some (Plain (Number (number % 256)))
address_operand target field.Bit number = Some (Plain (Number (number % 256)))
address_operand target other number = target_operand target

-- the operand of a row in an instruction with this target
abbrev pub operand_of : Target → Slot → Option OperandTree
operand_of target slot.Nothing = None
operand_of target slot.A = Some A
operand_of target slot.Ab = Some Ab
operand_of target slot.C = Some C
operand_of target slot.Dptr = Some Dptr
operand_of target slot.APc = Some APc
operand_of target slot.ADptr = Some ADptr
operand_of target slot.AtDptr = Some AtDptr
operand_of target (slot.R n) = Some (R n)
operand_of target (slot.AtR n) = Some (AtR n)
operand_of target (slot.Imm f) = Some (Imm (Number (data_number f.field f.number)))
operand_of target (slot.Plain f) = address_operand target f.field f.number
operand_of target (slot.NotBit f) = Some (NotBit (Number (f.number % 256)))

-- the operands of a row, in the order of its text
abbrev pub operands_of : Target → Text → List OperandTree
operands_of target t =
    cons_option (operand_of target t.first)
    (cons_option (operand_of target t.second) (cons_option (operand_of target t.third) []))

-- what a statement says: a byte by DB, or its instruction
abbrev pub body_of : Target → Content → BodyTree
body_of target (content.Byte byte) = Db (Value (Number byte) ∷ [])
body_of target (content.Code instr) = Code (text_of instr).mnemonic (operands_of target (text_of instr))

abbrev pub without_label : BodyTree → StmtTree
without_label body = record { label = None; body = body }

-- what a line says
abbrev pub meant : SourceLine → StmtTree
meant line.Nomod51 = without_label (Mod51 false)
meant (line.Segment base) = without_label (Select kind.Code (Some (Number base)))
meant (line.Statement s) = record { label = option_map label_text s.label; body = body_of s.target s.content }
meant line.End = without_label End

-- the lines of a disassembly as the assembler reads them: all are of the source, and this is the number of the first
abbrev pub read_from : ℕ → List SourceLine → List LineTree
read_from number [] = []
read_from number (l ∷ lines) =
    record { file = 0; line = number; stmt = meant l } ∷ read_from (number + 1) lines

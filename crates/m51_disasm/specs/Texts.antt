-- How the lines of a disassembly are written: numbers in hexadecimal and upper case, after a 0 and before an H.
use Rattle.std.specs.Prelude.{ℕ, ◌+◌, ◌%◌, List, [], ◌∷◌, ◌++◌, flat_map, codes, Option, Some, None}
use Rattle.m51_cells.specs.Hex.{hex2, hex4}
use Rattle.m51_isa.specs.declared.slot.Field.{Field}
use Rattle.m51_isa.specs.declared.slot.Field.TheVariants.{Data16, Direct, Bit}
use Rattle.m51_isa.specs.declared.slot.Slot.{Slot}
use Rattle.m51_isa.specs.declared.slot.Slot.TheVariants.{Nothing, A, Ab, C, Dptr, APc, ADptr, AtDptr, R, AtR, Imm}
use Rattle.m51_isa.specs.declared.slot.Slot.TheVariants.{Plain, NotBit}
use Rattle.m51_isa.specs.Spelling.{Text, text_of}
use Rattle.m51_disasm.specs.declared.line.SourceLine.{SourceLine}
use Rattle.m51_disasm.specs.declared.line.SourceLine.TheVariants as line
use Rattle.m51_disasm.specs.declared.line.StatementLine.{StatementLine}
use Rattle.m51_disasm.specs.declared.line.Target.{Target}
use Rattle.m51_disasm.specs.declared.line.Target.TheVariants.{Nowhere, Label, Number}
use Rattle.m51_disasm.specs.declared.statement.Content.{Content}
use Rattle.m51_disasm.specs.declared.statement.Content.TheVariants.{Byte, Code}

-- a number of one byte, and one of two bytes
abbrev pub byte_text : ℕ → List ℕ
byte_text byte = 0x30 ∷ (hex2 byte ++ codes "H")

abbrev pub word_text : ℕ → List ℕ
word_text number = 0x30 ∷ (hex4 number ++ codes "H")

-- the label of an address
abbrev pub label_text : ℕ → List ℕ
label_text address = codes "L" ++ hex4 address

-- a target; an instruction without one has no text of it
unfoldable pub target_text : Target → List ℕ
target_text Nowhere = []
target_text (Label address) = label_text address
target_text (Number address) = word_text address

-- the number of a field of one byte, which is its low byte
abbrev pub short_text : ℕ → List ℕ
short_text number = byte_text (number % 256)

-- data after their sign: two bytes where the field has two
unfoldable pub data_text : Field → ℕ → List ℕ
data_text Data16 number = word_text number
data_text other number = short_text number

-- an address of one byte, or the target
unfoldable pub plain_text : Target → Field → ℕ → List ℕ
plain_text target Direct number = short_text number
plain_text target Bit number = short_text number
plain_text target other number = target_text target

-- the digit of a register
abbrev pub digit_text : ℕ → List ℕ
digit_text number = (0x30 + number) ∷ []

-- an operand of an instruction with this target
unfoldable pub operand_text : Target → Slot → List ℕ
operand_text target Nothing = []
operand_text target A = codes "A"
operand_text target Ab = codes "AB"
operand_text target C = codes "C"
operand_text target Dptr = codes "DPTR"
operand_text target APc = codes "@A+PC"
operand_text target ADptr = codes "@A+DPTR"
operand_text target AtDptr = codes "@DPTR"
operand_text target (R number) = codes "R" ++ digit_text number
operand_text target (AtR number) = codes "@R" ++ digit_text number
operand_text target (Imm f) = codes "#" ++ data_text f.field f.number
operand_text target (Plain f) = plain_text target f.field f.number
operand_text target (NotBit f) = codes "/" ++ short_text f.number

-- an operand after the blank or the comma before it
unfoldable pub operand_after : List ℕ → Target → Slot → List ℕ
operand_after sign target Nothing = []
operand_after sign target slot = sign ++ operand_text target slot

-- an instruction: its mnemonic, a blank where it has operands, and its operands with commas between them
unfoldable pub spelled : Target → Text → List ℕ
spelled target t =
    t.mnemonic ++ operand_after (codes " ") target t.first ++ operand_after (codes ",") target t.second
    ++ operand_after (codes ",") target t.third

-- what a statement says
unfoldable pub content_text : Target → Content → List ℕ
content_text target (Byte byte) = codes "DB " ++ byte_text byte
content_text target (Code instr) = spelled target (text_of instr)

-- a label before a statement, with a colon and a blank
unfoldable pub label_front : Option ℕ → List ℕ
label_front None = []
label_front (Some address) = label_text address ++ codes ": "

-- a statement
unfoldable pub statement_text : StatementLine → List ℕ
statement_text s = label_front s.label ++ content_text s.target s.content

-- a line, without its end
unfoldable pub line_text : SourceLine → List ℕ
line_text line.Nomod51 = codes "$NOMOD51"
line_text (line.Segment base) = codes "CSEG AT " ++ word_text base
line_text (line.Statement s) = statement_text s
line_text line.End = codes "END"

-- lines, each with a line feed
abbrev pub text_of_lines : List SourceLine → List ℕ
text_of_lines lines = flat_map (λ one. line_text one ++ codes "\n") lines

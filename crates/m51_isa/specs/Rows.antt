-- What a row of the code's table says of an instruction.
use Rattle.std.specs.Prelude.{◌≡◌, ℕ, ◌+◌, ◌*◌, ◌/◌, ◌%◌, ◌<◌, List, [], Bool, ◌&&◌, cond, length}
use Rattle.std.specs.Prelude.{map, nat_eq, nat_lt, slice_index, slice_index_or}
use Rattle.std.specs.Prelude.{Option, Some, None}
use Rattle.std.specs.Str.{bytes_eq}
use Rattle.m51_isa.specs.declared.instr.Instr.{Instr}
use Rattle.m51_isa.specs.declared.instr.Instr.TheVariants.{Nop}
use Rattle.m51_isa.specs.declared.instr.Flow.TheVariants.{Next}
use Rattle.m51_isa.specs.declared.look.Look.{Look}
use Rattle.m51_isa.specs.declared.look.Look.TheVariants as look
use Rattle.m51_isa.specs.declared.slot.Slot.{Slot}
use Rattle.m51_isa.specs.declared.slot.Slot.TheVariants as slot
use Rattle.m51_isa.specs.declared.table.Operand.{Operand}
use Rattle.m51_isa.specs.declared.table.Operand.TheVariants.{Nothing, A, Ab, C, Dptr, APc, ADptr, AtDptr, R, AtR, Imm}
use Rattle.m51_isa.specs.declared.table.Operand.TheVariants.{Plain, NotBit}
use Rattle.m51_isa.specs.declared.table.Columns.{Columns}
use Rattle.m51_isa.specs.declared.table.Layout.{Layout}
use Rattle.m51_isa.specs.declared.table.Layout.TheVariants.{LowABC, LowBA, AB, BA, BC, WordA, WordB, BlockA}
use Rattle.m51_isa.specs.declared.table.TheConstants.{ROWS, ROW_COUNT, COLUMNS, PLACES}
use Rattle.m51_isa.specs.Looks.{look_kind}
use Rattle.m51_isa.specs.Spelling.{Text, look_of, text}
pub use Rattle.m51_isa.specs.Operands.{Bytes, field_at, list_of, with_field}
use Rattle.m51_isa.specs.Operands.{FitsAddr11, kept, slot_at, with_slot}
use Rattle.m51_isa.specs.Table.{encoded, makers, padded}

-- an operand with its number
abbrev pub slot_of : Operand → ℕ → Slot
slot_of Nothing n = slot.Nothing
slot_of A n = slot.A
slot_of Ab n = slot.Ab
slot_of C n = slot.C
slot_of Dptr n = slot.Dptr
slot_of APc n = slot.APc
slot_of ADptr n = slot.ADptr
slot_of AtDptr n = slot.AtDptr
slot_of R n = slot.R n
slot_of AtR n = slot.AtR n
slot_of (Imm f byte) n = slot.Imm (record { field = f; byte = byte; number = n })
slot_of (Plain f byte) n = slot.Plain (record { field = f; byte = byte; number = n })
slot_of (NotBit f byte) n = slot.NotBit (record { field = f; byte = byte; number = n })

-- with the number of an operand in them
abbrev pub with_operand : Operand → ℕ → Bytes → Bytes
with_operand operand n bytes = with_slot (slot_of operand n) bytes

-- how the numbers of the operands are laid out in bytes
abbrev pub laid : Layout → ℕ → ℕ → ℕ → ℕ → Bytes
laid LowABC opcode a b c = (opcode + a, b, c)
laid LowBA opcode a b c = (opcode + b, a, 0)
laid AB opcode a b c = (opcode, a, b)
laid BA opcode a b c = (opcode, b, a)
laid BC opcode a b c = (opcode, b, c)
laid WordA opcode a b c = (opcode, a / 256, a % 256)
laid WordB opcode a b c = (opcode, b / 256, b % 256)
laid BlockA opcode a b c = (opcode + 32 * (a / 256), a % 256, 0)

-- the numbers of an instruction are laid out so by its row
pub record IsLaid (r : Columns) (a b c : ℕ) (i : Instr) : Type 0 where
  pub bytes : list_of (laid r.layout r.opcode a b c) ≡ padded (encoded i)
  pub first : (laid r.layout r.opcode a b c).0 < 256
  pub second : (laid r.layout r.opcode a b c).1 < 256
  pub third : (laid r.layout r.opcode a b c).2 < 256

-- the bytes of a row with these numbers
abbrev pub bytes_by : Columns → ℕ → ℕ → ℕ → Bytes
bytes_by r a b c = with_operand r.third c (with_operand r.second b (with_operand r.first a (r.opcode, 0, 0)))

-- the number of an operand in three bytes
abbrev pub number_at : Operand → Bytes → ℕ
number_at operand bytes = slot_at (slot_of operand 0) bytes

-- the rows of the table, each a mnemonic and its columns
abbrev pub TextRow : Type 0
TextRow = List ℕ × Columns

abbrev pub rows : List TextRow
rows = map (λ r. (r.0.now, r.1)) ROWS

abbrev pub row_count : ℕ
row_count = ROW_COUNT

abbrev pub row_among : List TextRow → ℕ → TextRow
row_among among n =
    slice_index_or among n
    ([], record { first = Nothing; second = Nothing; third = Nothing; opcode = 0; layout = AB; flow = Next })

-- the row of an opcode, if it has one
abbrev pub row_if : ℕ → Option ℕ
row_if n = cond (nat_eq n 255) None (Some n)

abbrev pub column_of : ℕ → ℕ
column_of low = cond (nat_lt low 6) low (cond (nat_lt low 8) 6 7)

abbrev pub row_of_opcode : ℕ → Option ℕ
row_of_opcode opcode = row_if (slice_index (slice_index_or COLUMNS (column_of (opcode % 16)) []) (opcode / 16))

abbrev pub mnemonic_at : ℕ → List ℕ
mnemonic_at n = (row_among rows n).0

abbrev pub columns_at : ℕ → Columns
columns_at n = (row_among rows n).1

-- a number of a register or of an addr11 is below its bound
abbrev pub FitsOperand : Operand → ℕ → Type 0
FitsOperand R n = n < 8
FitsOperand AtR n = n < 2
FitsOperand (Plain f byte) n = FitsAddr11 f n
FitsOperand operand n = Unit {0}

-- what an operand has room for of a number
abbrev pub room : Operand → ℕ → ℕ
room R n = n % 8
room AtR n = n % 2
room (Imm f byte) n = kept f n
room (Plain f byte) n = kept f n
room (NotBit f byte) n = kept f n
room operand n = n

-- its number, after another was put into its field
abbrev pub refilled : Operand → ℕ → ℕ → ℕ
refilled (Imm f byte) own n = kept f n
refilled (Plain f byte) own n = kept f n
refilled (NotBit f byte) own n = kept f n
refilled operand own n = own

-- the text of a row with these numbers, and its instruction
abbrev pub row_text : ℕ → ℕ → ℕ → ℕ → Text
row_text n a b c =
    let r : Columns = columns_at n in text (mnemonic_at n) (slot_of r.first a) (slot_of r.second b) (slot_of r.third c)

abbrev pub made_at : ℕ → ℕ → ℕ → ℕ → Instr
made_at n = slice_index_or makers n (λ a b c. Nop)

-- with what its operands have room for of these numbers
abbrev pub filled_at : ℕ → ℕ → ℕ → ℕ → Instr
filled_at n a b c =
    let r : Columns = columns_at n in made_at n (room r.first a) (room r.second b) (room r.third c)

-- the instruction is the row of this number with these numbers
pub record IsAtRow (n a b c : ℕ) (i : Instr) : Type 0 where
  pub is : i ≡ made_at n a b c
  pub first : FitsOperand (columns_at n).first a
  pub second : FitsOperand (columns_at n).second b
  pub third : FitsOperand (columns_at n).third c

-- the kind of an operand, whatever its number
abbrev pub operand_kind : Operand → ℕ
operand_kind o = look_kind (look_of (slot_of o 0))

-- the register of a line is one
abbrev pub IsRegister : Look → Type 0
IsRegister (look.R n) = n < 8
IsRegister (look.AtR n) = n < 2
IsRegister l = Unit {0}

-- the row has this mnemonic, and operands of these kinds
abbrev pub fits : List ℕ → ℕ → ℕ → ℕ → TextRow → Bool
fits word a b c r =
    nat_eq (operand_kind r.1.first) a && nat_eq (operand_kind r.1.second) b && nat_eq (operand_kind r.1.third) c
    && bytes_eq r.0 word

abbrev pub fits_at : List ℕ → ℕ → ℕ → ℕ → ℕ → Bool
fits_at word a b c n = nat_lt n row_count && fits word a b c (row_among rows n)

-- the place of the rows with a mnemonic of this first letter and length, and first operands of these kinds
abbrev pub place : ℕ → ℕ → ℕ → ℕ → ℕ
place letter count a b = (10 * letter + 29 * (count % 8) + 27 * a + b) % 256

-- the rows at a place
abbrev pub rows_at : ℕ → ℕ × ℕ
rows_at n = (slice_index PLACES n, slice_index PLACES (n + 256))

-- the one of two rows that is found
abbrev pub either : (ℕ → Bool) → ℕ → ℕ → Option ℕ
either p m n = cond (p m) (Some m) (cond (p n) (Some n) None)

abbrev pub found : List ℕ → ℕ → ℕ → ℕ → Option ℕ
found word a b c =
    let at : ℕ × ℕ = rows_at (place (slice_index_or word 0 0) (length word) a b) in
    either (fits_at word a b c) at.0 at.1

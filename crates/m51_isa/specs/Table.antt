-- The instruction table: a row for each operand form, from the family manual, and the opcodes of the rows.
use Rattle.std.specs.Prelude.{◌≡◌, ℕ, ◌+◌, Bool, nat_eq, List, [], ◌∷◌, ◌++◌, length, take}
use Rattle.std.specs.Prelude.{codes, Option, option_map, slice_index}
use Rattle.std.specs.List.{find}
use Rattle.m51_isa.specs.declared.instr.Flow.{Flow}
use Rattle.m51_isa.specs.declared.instr.Flow.TheVariants.{Next, Branch, Call, Ret, Reti}
use Rattle.m51_isa.specs.declared.encoding.Code.{Code}
use Rattle.m51_isa.specs.declared.instr.Instr.{Instr}
use Rattle.m51_isa.specs.declared.instr.Instr.TheVariants as row
use Rattle.m51_isa.specs.declared.slot.Slot.{Slot}
use Rattle.m51_isa.specs.declared.slot.Slot.TheVariants.{Nothing, A, Ab, C, Dptr, APc, ADptr, AtDptr, R, AtR}
use Rattle.m51_isa.specs.Operands.{data_at, data16_at, direct_at, bit_at, not_bit_at, addr16_at, addr11_at, rel_at}
use Rattle.m51_isa.specs.Operands.{Bytes, FitsAddress, FitsRegister, in_opcode, list_of, slot_at, slot_length}
use Rattle.m51_isa.specs.Operands.{with_slot}

-- a mnemonic and its operands
pub record Text : Type 0 where
  pub mnemonic : List ℕ
  pub first : Slot
  pub second : Slot
  pub third : Slot

abbrev pub text : List ℕ → Slot → Slot → Slot → Text
text mnemonic first second third = record { mnemonic = mnemonic; first = first; second = second; third = third }

-- a row of the table: its opcode, the first if it has several, its machine cycles, where control goes, and its text
pub record TableRow : Type 0 where
  pub opcode : ℕ
  pub cycles : ℕ
  pub flow : Flow
  pub text : Text

abbrev pub table_row : ℕ → ℕ → Flow → List ℕ → Slot → Slot → Slot → TableRow
table_row opcode cycles flow mnemonic first second third =
    record { opcode = opcode; cycles = cycles; flow = flow; text = text mnemonic first second third }

-- the row of an instruction; MOV direct,direct has its target first, and its source in the first byte after the opcode
abbrev pub row_of : Instr → TableRow
row_of row.Nop = table_row 0x00 1 Next (codes "NOP") Nothing Nothing Nothing
row_of (row.JbcBitRel bit rel) = table_row 0x10 2 Branch (codes "JBC") (bit_at 1 bit) (rel_at 2 rel) Nothing
row_of (row.JbBitRel bit rel) = table_row 0x20 2 Branch (codes "JB") (bit_at 1 bit) (rel_at 2 rel) Nothing
row_of (row.JnbBitRel bit rel) = table_row 0x30 2 Branch (codes "JNB") (bit_at 1 bit) (rel_at 2 rel) Nothing
row_of (row.JcRel rel) = table_row 0x40 2 Branch (codes "JC") (rel_at 1 rel) Nothing Nothing
row_of (row.JncRel rel) = table_row 0x50 2 Branch (codes "JNC") (rel_at 1 rel) Nothing Nothing
row_of (row.JzRel rel) = table_row 0x60 2 Branch (codes "JZ") (rel_at 1 rel) Nothing Nothing
row_of (row.JnzRel rel) = table_row 0x70 2 Branch (codes "JNZ") (rel_at 1 rel) Nothing Nothing
row_of (row.SjmpRel rel) = table_row 0x80 2 Branch (codes "SJMP") (rel_at 1 rel) Nothing Nothing
row_of (row.MovDptrData16 word) = table_row 0x90 2 Next (codes "MOV") Dptr (data16_at 1 word) Nothing
row_of (row.OrlCNotBit bit) = table_row 0xA0 2 Next (codes "ORL") C (not_bit_at 1 bit) Nothing
row_of (row.AnlCNotBit bit) = table_row 0xB0 2 Next (codes "ANL") C (not_bit_at 1 bit) Nothing
row_of (row.PushDirect direct) = table_row 0xC0 2 Next (codes "PUSH") (direct_at 1 direct) Nothing Nothing
row_of (row.PopDirect direct) = table_row 0xD0 2 Next (codes "POP") (direct_at 1 direct) Nothing Nothing
row_of row.MovxAAtDptr = table_row 0xE0 2 Next (codes "MOVX") A AtDptr Nothing
row_of row.MovxAtDptrA = table_row 0xF0 2 Next (codes "MOVX") AtDptr A Nothing
row_of (row.AjmpAddr11 address) = table_row 0x01 2 Branch (codes "AJMP") (addr11_at 0 address) Nothing Nothing
row_of (row.AcallAddr11 address) = table_row 0x11 2 Call (codes "ACALL") (addr11_at 0 address) Nothing Nothing
row_of (row.LjmpAddr16 address) = table_row 0x02 2 Branch (codes "LJMP") (addr16_at 1 address) Nothing Nothing
row_of (row.LcallAddr16 address) = table_row 0x12 2 Call (codes "LCALL") (addr16_at 1 address) Nothing Nothing
row_of row.Ret = table_row 0x22 2 Ret (codes "RET") Nothing Nothing Nothing
row_of row.Reti = table_row 0x32 2 Reti (codes "RETI") Nothing Nothing Nothing
row_of (row.OrlDirectA direct) = table_row 0x42 1 Next (codes "ORL") (direct_at 1 direct) A Nothing
row_of (row.AnlDirectA direct) = table_row 0x52 1 Next (codes "ANL") (direct_at 1 direct) A Nothing
row_of (row.XrlDirectA direct) = table_row 0x62 1 Next (codes "XRL") (direct_at 1 direct) A Nothing
row_of (row.OrlCBit bit) = table_row 0x72 2 Next (codes "ORL") C (bit_at 1 bit) Nothing
row_of (row.AnlCBit bit) = table_row 0x82 2 Next (codes "ANL") C (bit_at 1 bit) Nothing
row_of (row.MovBitC bit) = table_row 0x92 2 Next (codes "MOV") (bit_at 1 bit) C Nothing
row_of (row.MovCBit bit) = table_row 0xA2 1 Next (codes "MOV") C (bit_at 1 bit) Nothing
row_of (row.CplBit bit) = table_row 0xB2 1 Next (codes "CPL") (bit_at 1 bit) Nothing Nothing
row_of (row.ClrBit bit) = table_row 0xC2 1 Next (codes "CLR") (bit_at 1 bit) Nothing Nothing
row_of (row.SetbBit bit) = table_row 0xD2 1 Next (codes "SETB") (bit_at 1 bit) Nothing Nothing
row_of (row.MovxAAtRi n) = table_row 0xE2 2 Next (codes "MOVX") A (AtR n) Nothing
row_of (row.MovxAtRiA n) = table_row 0xF2 2 Next (codes "MOVX") (AtR n) A Nothing
row_of row.RrA = table_row 0x03 1 Next (codes "RR") A Nothing Nothing
row_of row.RrcA = table_row 0x13 1 Next (codes "RRC") A Nothing Nothing
row_of row.RlA = table_row 0x23 1 Next (codes "RL") A Nothing Nothing
row_of row.RlcA = table_row 0x33 1 Next (codes "RLC") A Nothing Nothing
row_of (row.OrlDirectData direct value) =
    table_row 0x43 2 Next (codes "ORL") (direct_at 1 direct) (data_at 2 value) Nothing
row_of (row.AnlDirectData direct value) =
    table_row 0x53 2 Next (codes "ANL") (direct_at 1 direct) (data_at 2 value) Nothing
row_of (row.XrlDirectData direct value) =
    table_row 0x63 2 Next (codes "XRL") (direct_at 1 direct) (data_at 2 value) Nothing
row_of row.JmpAtADptr = table_row 0x73 2 Branch (codes "JMP") ADptr Nothing Nothing
row_of row.MovcAAtAPc = table_row 0x83 2 Next (codes "MOVC") A APc Nothing
row_of row.MovcAAtADptr = table_row 0x93 2 Next (codes "MOVC") A ADptr Nothing
row_of row.IncDptr = table_row 0xA3 2 Next (codes "INC") Dptr Nothing Nothing
row_of row.CplC = table_row 0xB3 1 Next (codes "CPL") C Nothing Nothing
row_of row.ClrC = table_row 0xC3 1 Next (codes "CLR") C Nothing Nothing
row_of row.SetbC = table_row 0xD3 1 Next (codes "SETB") C Nothing Nothing
row_of row.IncA = table_row 0x04 1 Next (codes "INC") A Nothing Nothing
row_of row.DecA = table_row 0x14 1 Next (codes "DEC") A Nothing Nothing
row_of (row.AddAData value) = table_row 0x24 1 Next (codes "ADD") A (data_at 1 value) Nothing
row_of (row.AddcAData value) = table_row 0x34 1 Next (codes "ADDC") A (data_at 1 value) Nothing
row_of (row.OrlAData value) = table_row 0x44 1 Next (codes "ORL") A (data_at 1 value) Nothing
row_of (row.AnlAData value) = table_row 0x54 1 Next (codes "ANL") A (data_at 1 value) Nothing
row_of (row.XrlAData value) = table_row 0x64 1 Next (codes "XRL") A (data_at 1 value) Nothing
row_of (row.MovAData value) = table_row 0x74 1 Next (codes "MOV") A (data_at 1 value) Nothing
row_of row.DivAb = table_row 0x84 4 Next (codes "DIV") Ab Nothing Nothing
row_of (row.SubbAData value) = table_row 0x94 1 Next (codes "SUBB") A (data_at 1 value) Nothing
row_of row.MulAb = table_row 0xA4 4 Next (codes "MUL") Ab Nothing Nothing
row_of (row.CjneADataRel value rel) = table_row 0xB4 2 Branch (codes "CJNE") A (data_at 1 value) (rel_at 2 rel)
row_of row.SwapA = table_row 0xC4 1 Next (codes "SWAP") A Nothing Nothing
row_of row.DaA = table_row 0xD4 1 Next (codes "DA") A Nothing Nothing
row_of row.ClrA = table_row 0xE4 1 Next (codes "CLR") A Nothing Nothing
row_of row.CplA = table_row 0xF4 1 Next (codes "CPL") A Nothing Nothing
row_of (row.IncDirect direct) = table_row 0x05 1 Next (codes "INC") (direct_at 1 direct) Nothing Nothing
row_of (row.DecDirect direct) = table_row 0x15 1 Next (codes "DEC") (direct_at 1 direct) Nothing Nothing
row_of (row.AddADirect direct) = table_row 0x25 1 Next (codes "ADD") A (direct_at 1 direct) Nothing
row_of (row.AddcADirect direct) = table_row 0x35 1 Next (codes "ADDC") A (direct_at 1 direct) Nothing
row_of (row.OrlADirect direct) = table_row 0x45 1 Next (codes "ORL") A (direct_at 1 direct) Nothing
row_of (row.AnlADirect direct) = table_row 0x55 1 Next (codes "ANL") A (direct_at 1 direct) Nothing
row_of (row.XrlADirect direct) = table_row 0x65 1 Next (codes "XRL") A (direct_at 1 direct) Nothing
row_of (row.MovDirectData direct value) =
    table_row 0x75 2 Next (codes "MOV") (direct_at 1 direct) (data_at 2 value) Nothing
row_of (row.MovDirectDirect source target) =
    table_row 0x85 2 Next (codes "MOV") (direct_at 2 target) (direct_at 1 source) Nothing
row_of (row.SubbADirect direct) = table_row 0x95 1 Next (codes "SUBB") A (direct_at 1 direct) Nothing
row_of (row.CjneADirectRel direct rel) = table_row 0xB5 2 Branch (codes "CJNE") A (direct_at 1 direct) (rel_at 2 rel)
row_of (row.XchADirect direct) = table_row 0xC5 1 Next (codes "XCH") A (direct_at 1 direct) Nothing
row_of (row.DjnzDirectRel direct rel) =
    table_row 0xD5 2 Branch (codes "DJNZ") (direct_at 1 direct) (rel_at 2 rel) Nothing
row_of (row.MovADirect direct) = table_row 0xE5 1 Next (codes "MOV") A (direct_at 1 direct) Nothing
row_of (row.MovDirectA direct) = table_row 0xF5 1 Next (codes "MOV") (direct_at 1 direct) A Nothing
row_of (row.IncAtRi n) = table_row 0x06 1 Next (codes "INC") (AtR n) Nothing Nothing
row_of (row.DecAtRi n) = table_row 0x16 1 Next (codes "DEC") (AtR n) Nothing Nothing
row_of (row.AddAAtRi n) = table_row 0x26 1 Next (codes "ADD") A (AtR n) Nothing
row_of (row.AddcAAtRi n) = table_row 0x36 1 Next (codes "ADDC") A (AtR n) Nothing
row_of (row.OrlAAtRi n) = table_row 0x46 1 Next (codes "ORL") A (AtR n) Nothing
row_of (row.AnlAAtRi n) = table_row 0x56 1 Next (codes "ANL") A (AtR n) Nothing
row_of (row.XrlAAtRi n) = table_row 0x66 1 Next (codes "XRL") A (AtR n) Nothing
row_of (row.MovAtRiData n value) = table_row 0x76 1 Next (codes "MOV") (AtR n) (data_at 1 value) Nothing
row_of (row.MovDirectAtRi n direct) = table_row 0x86 2 Next (codes "MOV") (direct_at 1 direct) (AtR n) Nothing
row_of (row.SubbAAtRi n) = table_row 0x96 1 Next (codes "SUBB") A (AtR n) Nothing
row_of (row.MovAtRiDirect n direct) = table_row 0xA6 2 Next (codes "MOV") (AtR n) (direct_at 1 direct) Nothing
row_of (row.CjneAtRiDataRel n value rel) =
    table_row 0xB6 2 Branch (codes "CJNE") (AtR n) (data_at 1 value) (rel_at 2 rel)
row_of (row.XchAAtRi n) = table_row 0xC6 1 Next (codes "XCH") A (AtR n) Nothing
row_of (row.XchdAAtRi n) = table_row 0xD6 1 Next (codes "XCHD") A (AtR n) Nothing
row_of (row.MovAAtRi n) = table_row 0xE6 1 Next (codes "MOV") A (AtR n) Nothing
row_of (row.MovAtRiA n) = table_row 0xF6 1 Next (codes "MOV") (AtR n) A Nothing
row_of (row.IncRn n) = table_row 0x08 1 Next (codes "INC") (R n) Nothing Nothing
row_of (row.DecRn n) = table_row 0x18 1 Next (codes "DEC") (R n) Nothing Nothing
row_of (row.AddARn n) = table_row 0x28 1 Next (codes "ADD") A (R n) Nothing
row_of (row.AddcARn n) = table_row 0x38 1 Next (codes "ADDC") A (R n) Nothing
row_of (row.OrlARn n) = table_row 0x48 1 Next (codes "ORL") A (R n) Nothing
row_of (row.AnlARn n) = table_row 0x58 1 Next (codes "ANL") A (R n) Nothing
row_of (row.XrlARn n) = table_row 0x68 1 Next (codes "XRL") A (R n) Nothing
row_of (row.MovRnData n value) = table_row 0x78 1 Next (codes "MOV") (R n) (data_at 1 value) Nothing
row_of (row.MovDirectRn n direct) = table_row 0x88 2 Next (codes "MOV") (direct_at 1 direct) (R n) Nothing
row_of (row.SubbARn n) = table_row 0x98 1 Next (codes "SUBB") A (R n) Nothing
row_of (row.MovRnDirect n direct) = table_row 0xA8 2 Next (codes "MOV") (R n) (direct_at 1 direct) Nothing
row_of (row.CjneRnDataRel n value rel) = table_row 0xB8 2 Branch (codes "CJNE") (R n) (data_at 1 value) (rel_at 2 rel)
row_of (row.XchARn n) = table_row 0xC8 1 Next (codes "XCH") A (R n) Nothing
row_of (row.DjnzRnRel n rel) = table_row 0xD8 2 Branch (codes "DJNZ") (R n) (rel_at 1 rel) Nothing
row_of (row.MovARn n) = table_row 0xE8 1 Next (codes "MOV") A (R n) Nothing
row_of (row.MovRnA n) = table_row 0xF8 1 Next (codes "MOV") (R n) A Nothing

-- the instruction of a row with these numbers of its operands, in the order of the text
abbrev pub Maker : Type 0
Maker = ℕ → ℕ → ℕ → Instr

-- without numbers, and with those of the first, the second and the third operand
abbrev none : Instr → Maker
none i a b c = i

abbrev of_a : (ℕ → Instr) → Maker
of_a row a b c = row a

abbrev of_b : (ℕ → Instr) → Maker
of_b row a b c = row b

abbrev of_ab : (ℕ → ℕ → Instr) → Maker
of_ab row a b c = row a b

abbrev of_ba : (ℕ → ℕ → Instr) → Maker
of_ba row a b c = row b a

abbrev of_bc : (ℕ → ℕ → Instr) → Maker
of_bc row a b c = row b c

abbrev of_abc : (ℕ → ℕ → ℕ → Instr) → Maker
of_abc row a b c = row a b c

-- the rows, in the same order
abbrev pub makers : List Maker
makers =
    none row.Nop ∷ of_ab row.JbcBitRel ∷ of_ab row.JbBitRel ∷ of_ab row.JnbBitRel ∷ of_a row.JcRel ∷
    of_a row.JncRel ∷ of_a row.JzRel ∷ of_a row.JnzRel ∷ of_a row.SjmpRel ∷ of_b row.MovDptrData16 ∷
    of_b row.OrlCNotBit ∷ of_b row.AnlCNotBit ∷ of_a row.PushDirect ∷ of_a row.PopDirect ∷ none row.MovxAAtDptr ∷
    none row.MovxAtDptrA ∷ of_a row.AjmpAddr11 ∷ of_a row.AcallAddr11 ∷ of_a row.LjmpAddr16 ∷ of_a row.LcallAddr16 ∷
    none row.Ret ∷ none row.Reti ∷ of_a row.OrlDirectA ∷ of_a row.AnlDirectA ∷ of_a row.XrlDirectA ∷
    of_b row.OrlCBit ∷ of_b row.AnlCBit ∷ of_a row.MovBitC ∷ of_b row.MovCBit ∷ of_a row.CplBit ∷ of_a row.ClrBit ∷
    of_a row.SetbBit ∷ of_b row.MovxAAtRi ∷ of_a row.MovxAtRiA ∷ none row.RrA ∷ none row.RrcA ∷ none row.RlA ∷
    none row.RlcA ∷ of_ab row.OrlDirectData ∷ of_ab row.AnlDirectData ∷ of_ab row.XrlDirectData ∷
    none row.JmpAtADptr ∷ none row.MovcAAtAPc ∷ none row.MovcAAtADptr ∷ none row.IncDptr ∷ none row.CplC ∷
    none row.ClrC ∷ none row.SetbC ∷ none row.IncA ∷ none row.DecA ∷ of_b row.AddAData ∷ of_b row.AddcAData ∷
    of_b row.OrlAData ∷ of_b row.AnlAData ∷ of_b row.XrlAData ∷ of_b row.MovAData ∷ none row.DivAb ∷
    of_b row.SubbAData ∷ none row.MulAb ∷ of_bc row.CjneADataRel ∷ none row.SwapA ∷ none row.DaA ∷ none row.ClrA ∷
    none row.CplA ∷ of_a row.IncDirect ∷ of_a row.DecDirect ∷ of_b row.AddADirect ∷ of_b row.AddcADirect ∷
    of_b row.OrlADirect ∷ of_b row.AnlADirect ∷ of_b row.XrlADirect ∷ of_ab row.MovDirectData ∷
    of_ba row.MovDirectDirect ∷ of_b row.SubbADirect ∷ of_bc row.CjneADirectRel ∷ of_b row.XchADirect ∷
    of_ab row.DjnzDirectRel ∷ of_b row.MovADirect ∷ of_a row.MovDirectA ∷ of_a row.IncAtRi ∷ of_a row.DecAtRi ∷
    of_b row.AddAAtRi ∷ of_b row.AddcAAtRi ∷ of_b row.OrlAAtRi ∷ of_b row.AnlAAtRi ∷ of_b row.XrlAAtRi ∷
    of_ab row.MovAtRiData ∷ of_ba row.MovDirectAtRi ∷ of_b row.SubbAAtRi ∷ of_ab row.MovAtRiDirect ∷
    of_abc row.CjneAtRiDataRel ∷ of_b row.XchAAtRi ∷ of_b row.XchdAAtRi ∷ of_b row.MovAAtRi ∷ of_a row.MovAtRiA ∷
    of_a row.IncRn ∷ of_a row.DecRn ∷ of_b row.AddARn ∷ of_b row.AddcARn ∷ of_b row.OrlARn ∷ of_b row.AnlARn ∷
    of_b row.XrlARn ∷ of_ab row.MovRnData ∷ of_ba row.MovDirectRn ∷ of_b row.SubbARn ∷ of_ab row.MovRnDirect ∷
    of_abc row.CjneRnDataRel ∷ of_b row.XchARn ∷ of_ab row.DjnzRnRel ∷ of_b row.MovARn ∷ of_a row.MovRnA ∷ []

-- the text of a row
abbrev pub text_of : Instr → Text
text_of instr = (row_of instr).text

-- three bytes: the opcode, with the numbers of the operands
abbrev pub bytes_of : Instr → Bytes
bytes_of instr =
    let t : Text = text_of instr in
    with_slot t.third (with_slot t.second (with_slot t.first ((row_of instr).opcode, 0, 0)))

-- how many bytes the operands of a text make
abbrev pub text_length : Text → ℕ
text_length t = 1 + (slot_length t.first + (slot_length t.second + slot_length t.third))

-- its bytes
abbrev pub encoded : Instr → List ℕ
encoded instr = take (text_length (text_of instr)) (list_of (bytes_of instr))

-- how many bytes it has
abbrev pub length_of : Instr → ℕ
length_of instr = length (encoded instr)

-- how many machine cycles it takes
abbrev pub cycles_of : Instr → ℕ
cycles_of instr = (row_of instr).cycles

-- where control goes after it
abbrev pub flow_of : Instr → Flow
flow_of instr = (row_of instr).flow

-- register numbers and addr11 are below their bounds
abbrev pub OperandsFit : Instr → Type 0
OperandsFit instr =
    let t : Text = text_of instr in FitsRegister t.first (FitsRegister t.second (FitsAddress t.first))

-- the row that begins with this opcode, with the numbers that three bytes have
abbrev opens : ℕ → Maker → Bool
opens opcode make =
    let i : Instr = make 0 0 0 in
    nat_eq (in_opcode (text_of i).first opcode (in_opcode (text_of i).second opcode (row_of i).opcode)) opcode

abbrev read_as : Bytes → Maker → Instr
read_as bytes make =
    let t : Text = text_of (make 0 0 0) in make (slot_at t.first bytes) (slot_at t.second bytes) (slot_at t.third bytes)

-- the instruction of these three bytes
abbrev pub decoded_at : ℕ → ℕ → ℕ → Option Instr
decoded_at first second third = option_map (read_as (first, second, third)) (find (opens first) makers)

-- the instruction that the bytes begin with
abbrev pub decoded : List ℕ → Option Instr
decoded bytes = decoded_at (slice_index bytes 0) (slice_index bytes 1) (slice_index bytes 2)

-- three bytes: those of the list, and zeros
abbrev pub padded : List ℕ → List ℕ
padded bytes = take 3 (bytes ++ 0 ∷ 0 ∷ 0 ∷ [])

-- the code of an instruction with these bytes
abbrev pub code_of : List ℕ → Code
code_of bytes = record { bytes = padded bytes; len = length bytes }

-- the first bytes are these
abbrev pub BeginsWith : List ℕ → List ℕ → Type 0
BeginsWith bytes [] = Unit {0}
BeginsWith [] (x ∷ xs) = ⊥
BeginsWith (b ∷ bytes) (x ∷ xs) = (b ≡ x) × BeginsWith bytes xs

-- A5H is reserved, and no other opcode
abbrev pub is_reserved : ℕ → Bool
is_reserved opcode = nat_eq opcode 0xA5

-- the bytes begin with the row of this instruction
pub record IsRowAt (bytes : List ℕ) (instr : Instr) : Type 0 where
  pub fits : OperandsFit instr
  pub begins : BeginsWith bytes (encoded instr)

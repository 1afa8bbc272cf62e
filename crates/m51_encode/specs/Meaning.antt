-- The instruction that a line of a source means.
use Rattle.std.specs.Prelude.{◌≡◌, ℕ, ◌<◌, ◌⊎◌, List, slice_get, Option, Some, None, IfSome, option_map, Ok, Err}
use Rattle.std.specs.Prelude.{IfOk}
use Rattle.m51_isa.specs.declared.instr.Instr.{Instr}
use Rattle.m51_isa.specs.declared.slot.FieldSlot.{FieldSlot}
use Rattle.m51_isa.specs.declared.slot.Slot.{Slot}
use Rattle.m51_isa.specs.declared.slot.Slot.TheVariants.{Nothing, A, Ab, C, Dptr, APc, ADptr, AtDptr, R, AtR, Imm}
use Rattle.m51_isa.specs.declared.slot.Slot.TheVariants.{Plain, NotBit}
use Rattle.m51_isa.specs.Table.{encoded, code_of, length_of as row_length}
use Rattle.m51_isa.specs.declared.slot.Field.{Field}
use Rattle.m51_isa.specs.Spelling.{Text, field_in, text_of}
use Rattle.m51_isa.specs.Generic.{generic}
use Rattle.m51_isa.specs.TextLaws.{kept, meant_by}
use Rattle.m51_expr.specs.declared.value.Value.{Value}
use Rattle.m51_expr.specs.Value.{Valued}
use Rattle.m51_expr.specs.Tree.{Tree}
use Rattle.m51_expr.specs.Meanings.{Meanings}
use Rattle.m51_expr.specs.Evaluation.{value_of}
use Rattle.m51_expr.specs.Operand as line
use Rattle.m51_expr.specs.Operand.{OperandTree}
use Rattle.m51_encode.specs.JumpForm.{address_after}
use Rattle.m51_encode.specs.declared.coding.Coded.{Coded}
use Rattle.m51_encode.specs.declared.filling.Held.{Held}
use Rattle.m51_encode.specs.declared.reference.Reference.{Reference}
use Rattle.m51_encode.specs.Reference.{reference_of}
use Rattle.m51_encode.specs.Filling.{valued}
use Rattle.m51_encode.specs.Coding.{Line, look_in, coded_line}

-- the same register, one of `count`
pub record IsRegister (count n m : ℕ) : Type 0 where
  pub same : n ≡ m
  pub there : n < count

-- the reference is what the value of an expression leaves to the linker in this field
abbrev pub IsReferenceOf : Meanings → Field → Valued Value → Reference → Type 0
IsReferenceOf names at (Ok v) r = r ≡ reference_of names at v
IsReferenceOf names at (Err e) r = ⊥

-- for each byte of an instruction the reference whose field begins there, or none
abbrev pub References : Type 0
References = List (Option Reference)

-- The value of an expression gives the number of a field, 0 where the linker fills it in. The reference, or that there
-- is none, lies at the byte where the field begins, and is that of the value in a field of this kind.
pub record GivesField (names : Meanings) (next : ℕ) (references : References) (f : FieldSlot) (e : Tree) : Type 0 where
  pub held : Held
  pub value : valued names next f.field f.byte (value_of names e) ≡ Ok held
  pub is : kept f.field held.number ≡ f.number
  pub lies : slice_get references f.byte ≡ Some held.reference
  pub kind : IfSome held.reference (IsReferenceOf names f.field (value_of names e))

-- an operand of a line means the operand of a row: both are missing, or are the same word or register, or the
-- expression of the one gives the number in the field of the other
abbrev pub Fills : Meanings → ℕ → References → Option OperandTree → Slot → Type 0
Fills names next references None Nothing = Unit {0}
Fills names next references (Some line.A) A = Unit {0}
Fills names next references (Some line.Ab) Ab = Unit {0}
Fills names next references (Some line.C) C = Unit {0}
Fills names next references (Some line.Dptr) Dptr = Unit {0}
Fills names next references (Some line.APc) APc = Unit {0}
Fills names next references (Some line.ADptr) ADptr = Unit {0}
Fills names next references (Some line.AtDptr) AtDptr = Unit {0}
Fills names next references (Some (line.R n)) (R m) = IsRegister 8 n m
Fills names next references (Some (line.AtR n)) (AtR m) = IsRegister 2 n m
Fills names next references (Some (line.Imm e)) (Imm f) = GivesField names next references f e
Fills names next references (Some (line.Plain e)) (Plain f) = GivesField names next references f e
Fills names next references (Some (line.NotBit e)) (NotBit f) = GivesField names next references f e
Fills names next references operand slot = ⊥

-- the mnemonic that a line means: for JMP and CALL with an address that of the form
abbrev pub meant : Line → List ℕ
meant l = meant_by l.mnemonic l.jump (generic l.mnemonic (look_in l.first) (look_in l.second) (look_in l.third))

-- the text is what the line means: its mnemonic, and each of its operands
pub record TextStands (names : Meanings) (next : ℕ) (references : References) (l : Line) (t : Text) : Type 0 where
  pub mnemonic : meant l ≡ t.mnemonic
  pub first : Fills names next references l.first t.first
  pub second : Fills names next references l.second t.second
  pub third : Fills names next references l.third t.third

-- the byte where the field of an operand begins, if it has one
abbrev pub byte_of : Option FieldSlot → Option ℕ
byte_of field = option_map (λ f. f.byte) field

-- the field of an operand of the text begins at this byte
abbrev pub BeginsAt : Text → ℕ → Type 0
BeginsAt t byte =
    (byte_of (field_in t.first) ≡ Some byte) ⊎ ((byte_of (field_in t.second) ≡ Some byte)
    ⊎ (byte_of (field_in t.third) ≡ Some byte))

-- the bytes are those of an instruction that the line means, and a reference lies only where a field begins
pub record StandsFor (names : Meanings) (l : Line) (c : Coded) : Type 0 where
  pub instr : Instr
  pub text : TextStands names (address_after names (row_length instr)) c.references l (text_of instr)
  pub code : c.code ≡ code_of (encoded instr)
  pub only : (byte : ℕ) (r : Reference) → slice_get c.references byte ≡ Some (Some r) → BeginsAt (text_of instr) byte

-- The bytes that are coded are those of an instruction that the line means.
abbrev pub CodedStandsForLine : Type 0
CodedStandsForLine = (names : Meanings) (l : Line) → IfOk (coded_line names (Some l)) (StandsFor names l)

-- The text of the rows of the instruction table: what their operands look like, and how the code gives it.
use Rattle.m51_isa.specs.declared.look.Look.{Look}
use Rattle.m51_isa.specs.declared.look.Look.TheVariants as look
use Rattle.m51_isa.specs.declared.slot.Slot.{Slot}
use Rattle.m51_isa.specs.declared.slot.Slot.TheVariants.{Nothing, A, Ab, C, Dptr, APc, ADptr, AtDptr, R, AtR, Imm}
use Rattle.m51_isa.specs.declared.slot.Slot.TheVariants.{Plain, NotBit}
use Rattle.m51_isa.specs.declared.spelling.Spelling.{Spelling}
pub use Rattle.m51_isa.specs.Operands.{field_in}
pub use Rattle.m51_isa.specs.Table.{Text, text, text_of}

-- what an operand looks like, whatever its number
abbrev pub look_of : Slot → Look
look_of Nothing = look.Nothing
look_of A = look.A
look_of Ab = look.Ab
look_of C = look.C
look_of Dptr = look.Dptr
look_of APc = look.APc
look_of ADptr = look.ADptr
look_of AtDptr = look.AtDptr
look_of (R n) = look.R n
look_of (AtR n) = look.AtR n
look_of (Imm f) = look.Imm
look_of (Plain f) = look.Plain
look_of (NotBit f) = look.NotBit

-- the text that a spelling is
abbrev pub text_in : Spelling → Text
text_in s = text s.mnemonic.now s.first s.second s.third

-- Lines that can be written: each number has room where it is written, and each target of an instruction exists.
use Rattle.std.specs.Prelude.{ℕ, ◌<◌, List, Option, Some, None, slice_index}
use Rattle.m51_isa.specs.declared.slot.Field.{Field}
use Rattle.m51_isa.specs.declared.slot.Field.TheVariants as field
use Rattle.m51_isa.specs.declared.slot.Slot.{Slot}
use Rattle.m51_isa.specs.declared.slot.Slot.TheVariants as slot
use Rattle.m51_isa.specs.Spelling.{Text, text_of}
use Rattle.m51_module.specs.Plan.{IsPlaced}
use Rattle.m51_module.specs.declared.parts.LayoutParts.{LayoutParts}
use Rattle.m51_module.specs.declared.placed.Placed.{Placed}
use Rattle.m51_disasm.specs.declared.line.SourceLine.{SourceLine}
use Rattle.m51_disasm.specs.declared.line.SourceLine.TheVariants as line
use Rattle.m51_disasm.specs.declared.line.StatementLine.{StatementLine}
use Rattle.m51_disasm.specs.declared.line.Target.{Target}
use Rattle.m51_disasm.specs.declared.line.Target.TheVariants as target
use Rattle.m51_disasm.specs.declared.statement.Content.{Content}
use Rattle.m51_disasm.specs.declared.statement.Content.TheVariants as content

-- the bytes of an image
abbrev pub AreBytes : List ℕ → Type 0
AreBytes image = (at : ℕ) → slice_index image at < 256

-- an address of program memory, as a label or as a number
abbrev pub IsTarget : Target → Type 0
IsTarget target.Nowhere = ⊥
IsTarget (target.Label address) = address < 65536
IsTarget (target.Number address) = address < 65536

-- the field of an address is one of a byte, or the target exists
abbrev pub IsAddress : Target → Field → Type 0
IsAddress target field.Direct = Unit {0}
IsAddress target field.Bit = Unit {0}
IsAddress target other = IsTarget target

-- an operand of an instruction with this target can be written
abbrev pub IsSlot : Target → Slot → Type 0
IsSlot target (slot.R n) = n < 8
IsSlot target (slot.AtR n) = n < 2
IsSlot target (slot.Imm f) = f.number < 65536
IsSlot target (slot.Plain f) = IsAddress target f.field
IsSlot target other = Unit {0}

pub record AreSlots (target : Target) (t : Text) : Type 0 where
  pub first : IsSlot target t.first
  pub second : IsSlot target t.second
  pub third : IsSlot target t.third

abbrev pub IsContent : Target → Content → Type 0
IsContent target (content.Byte byte) = byte < 256
IsContent target (content.Code instr) = AreSlots target (text_of instr)

-- a label, if there is one, is that of an address
abbrev pub IsLabel : Option ℕ → Type 0
IsLabel None = Unit {0}
IsLabel (Some address) = address < 65536

pub record IsStatementLine (s : StatementLine) : Type 0 where
  pub label : IsLabel s.label
  pub content : IsContent s.target s.content

-- the line can be written
abbrev pub IsSound : SourceLine → Type 0
IsSound line.Nomod51 = Unit {0}
IsSound (line.Segment base) = base < 65536
IsSound (line.Statement s) = IsStatementLine s
IsSound line.End = Unit {0}

-- extents have sizes of two bytes
abbrev pub HaveSizes : LayoutParts → Type 0
HaveSizes l = (number : ℕ) (p : Placed) → IsPlaced l number p → p.size < 65536

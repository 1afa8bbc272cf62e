-- The statements of a part: which of its bytes are written as an instruction, and where control goes from it. A part is
-- a row of bytes of the image, and ends where its unit does.
use Rattle.std.specs.Prelude.{ℕ, zero, suc, ◌+◌, ◌-◌, ◌%◌, Bool, true, ◌&&◌, nat_lt, nat_le}
use Rattle.std.specs.Prelude.{if◌then◌else◌, List, [], ◌∷◌, Option, Some, None, slice_index}
use Rattle.std.specs.Option.{option_or}
use Rattle.m51_isa.specs.declared.instr.Instr.{Instr}
use Rattle.m51_isa.specs.declared.slot.Field.{Field}
use Rattle.m51_isa.specs.declared.slot.Field.TheVariants.{Addr16, Addr11, Rel}
use Rattle.m51_isa.specs.declared.slot.FieldSlot.{FieldSlot}
use Rattle.m51_isa.specs.Spelling.{Text, text_of, field_in}
use Rattle.m51_isa.specs.Table.{decoded_at, length_of}
use Rattle.m51_isa.specs.Targets.{relative, near}
use Rattle.m51_disasm.specs.declared.part.CodeRange.{CodeRange}
use Rattle.m51_disasm.specs.declared.statement.Content.{Content}
use Rattle.m51_disasm.specs.declared.statement.Content.TheVariants.{Byte, Code}
use Rattle.m51_disasm.specs.declared.statement.Statement.{Statement}

-- the instruction that begins at an address; past the end of the image the bytes are 0
unfoldable pub instr_in_image : List ℕ → ℕ → Option Instr
instr_in_image image at = decoded_at (slice_index image at) (slice_index image (at + 1)) (slice_index image (at + 2))

-- The sum of the next address and a rel, which is a signed byte, computed without wrapping, is an address of program
-- memory.
abbrev pub ends_inside : ℕ → ℕ → Bool
ends_inside next rel = if nat_lt rel 128 then nat_lt (next + rel) 0x10000 else nat_le 256 (next + rel)

-- A field can be written with this next address: a rel and an addr11 need one in program memory, and a rel must lead to
-- an address there.
unfoldable pub leads_inside : ℕ → Field → ℕ → Bool
leads_inside next Rel rel = nat_lt next 0x10000 && ends_inside next rel
leads_inside next Addr11 address = nat_lt next 0x10000
leads_inside next other number = true

abbrev pub stays_inside : ℕ → Option FieldSlot → Bool
stays_inside next None = true
stays_inside next (Some f) = leads_inside next f.field f.number

abbrev pub all_inside : ℕ → Text → Bool
all_inside next t =
    stays_inside next (field_in t.first) && stays_inside next (field_in t.second)
    && stays_inside next (field_in t.third)

-- the instruction at an address can be written: it does not pass the end of its unit, and its fields can be written
unfoldable pub can_stand : ℕ → ℕ → Instr → Bool
can_stand end at instr = nat_le (at + length_of instr) end && all_inside (at + length_of instr) (text_of instr)

-- what is written of a byte that begins an instruction, or is the reserved one
abbrev pub content_of : ℕ → ℕ → ℕ → Option Instr → Content
content_of end at byte None = Byte byte
content_of end at byte (Some instr) = if can_stand end at instr then Code instr else Byte byte

-- the statement at an address of a unit with this end
unfoldable pub statement_at : List ℕ → ℕ → ℕ → Statement
statement_at image end at =
    record { at = at; content = content_of end at (slice_index image at) (instr_in_image image at) }

-- how many bytes it has
abbrev pub length_in : Content → ℕ
length_in (Byte byte) = 1
length_in (Code instr) = length_of instr

-- The statements of a number of bytes of a unit, from an address on. The first `passed` bytes are passed over, which
-- belong to the statement before: each statement begins where the one before it ends.
unfoldable pub statements_from : List ℕ → ℕ → ℕ → ℕ → ℕ → List Statement
statements_from image end passed at zero = []
statements_from image end (suc passed) at (suc more) = statements_from image end passed (at + 1) more
statements_from image end zero at (suc more) =
    let s = statement_at image end at in s ∷ statements_from image end (length_in s.content - 1) (at + 1) more

-- the statements of a part
abbrev pub statements_of : List ℕ → CodeRange → List Statement
statements_of image part = statements_from image (part.base + part.size) 0 part.base part.size

-- the address that a field leads to, with this next address, if it is one of a jump, branch or call
unfoldable pub address_by : ℕ → Field → ℕ → Option ℕ
address_by next Rel rel = Some (relative next rel)
address_by next Addr11 address = Some (near next address % 65536)
address_by next Addr16 address = Some address
address_by next other number = None

abbrev pub slot_address : ℕ → Option FieldSlot → Option ℕ
slot_address next None = None
slot_address next (Some f) = address_by next f.field f.number

abbrev pub address_of : ℕ → Text → Option ℕ
address_of next t =
    option_or (slot_address next (field_in t.first))
    (option_or (slot_address next (field_in t.second)) (slot_address next (field_in t.third)))

-- the target of a statement; a byte has none
abbrev pub target_by : ℕ → Content → Option ℕ
target_by at (Byte byte) = None
target_by at (Code instr) = address_of (at + length_of instr) (text_of instr)

unfoldable pub statement_target : Statement → Option ℕ
statement_target s = target_by s.at s.content

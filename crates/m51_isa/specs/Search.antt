-- The rows of the instruction table as they are found: by mnemonic and by what the operands look like.
use Rattle.std.specs.Prelude.{ℕ, Bool, ◌||◌, ◌&&◌, List, Option, Some, None, is_some, map, nat_eq}
use Rattle.std.specs.List.{find}
use Rattle.std.specs.Str.{bytes_eq}
use Rattle.m51_isa.specs.declared.instr.Instr.{Instr}
use Rattle.m51_isa.specs.declared.look.Look.{Look}
use Rattle.m51_isa.specs.declared.slot.Slot.{Slot}
use Rattle.m51_isa.specs.declared.slot.Slot.TheVariants.{R, AtR}
use Rattle.m51_isa.specs.declared.generics.Jump.{Jump}
use Rattle.m51_isa.specs.declared.generics.Verb.{Verb}
use Rattle.m51_isa.specs.Generic.{generic, jump_row}
use Rattle.m51_isa.specs.Looks.{look_kind, number_in}
use Rattle.m51_isa.specs.Spelling.{look_of}
use Rattle.m51_isa.specs.Table.{makers, text_of}

-- the number of a register, else 0
abbrev if_register : Slot → ℕ → ℕ
if_register (R own) n = n
if_register (AtR own) n = n
if_register slot n = 0

-- the rows with 0 in each field, and with these numbers where the first operand is a register, and where the second is
abbrev pub forms : ℕ → ℕ → List Instr
forms x y =
    map (λ make. let t = text_of (make 0 0 0) in make (if_register t.first x) (if_register t.second y) 0) makers

-- the row is written with this mnemonic and with operands of these kinds
abbrev pub is_written : List ℕ → ℕ → ℕ → ℕ → Instr → Bool
is_written word a b c i =
    nat_eq (look_kind (look_of (text_of i).first)) a && nat_eq (look_kind (look_of (text_of i).second)) b
    && nat_eq (look_kind (look_of (text_of i).third)) c && bytes_eq (text_of i).mnemonic word

-- the row of a mnemonic with operands that look so, with 0 in each field
unfoldable pub search : List ℕ → Look → Look → Look → Option Instr
search word a b c =
    find (is_written word (look_kind a) (look_kind b) (look_kind c)) (forms (number_in a) (number_in b))

-- a mnemonic may have operands that look so: there is such a row, or it is a generic jump
unfoldable pub has_row : List ℕ → Look → Look → Look → Bool
has_row word a b c = is_some (search word a b c) || is_some (generic word a b c)

abbrev pub row_or : Jump → Option Verb → Option Instr → Option Instr
row_or form (Some verb) row = Some (jump_row verb form)
row_or form None row = row

-- the row of a line; of a generic jump it is that of the form
abbrev pub row_for : List ℕ → Jump → Look → Look → Look → Option Instr
row_for word form a b c = row_or form (generic word a b c) (search word a b c)

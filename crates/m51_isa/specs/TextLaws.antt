-- What the texts of the instruction table promise.
use Rattle.std.specs.Prelude.{◌≡◌, ℕ, List, Option, Some, None, IfSome, option_map}
use Rattle.m51_isa.specs.declared.instr.Instr.{Instr}
use Rattle.m51_isa.specs.declared.look.Look.{Look}
use Rattle.m51_isa.specs.declared.slot.FieldSlot.{FieldSlot}
use Rattle.m51_isa.specs.declared.slot.Slot.{Slot}
use Rattle.m51_isa.specs.declared.slot.Slot.TheVariants.{Imm, Plain, NotBit}
pub use Rattle.m51_isa.specs.Operands.{kept}
use Rattle.m51_isa.specs.Spelling.{look_of, Text, text, text_of}
use Rattle.m51_isa.specs.Table.{length_of}
use Rattle.m51_isa.specs.declared.generics.Jump.{Jump}
use Rattle.m51_isa.specs.declared.generics.Verb.{Verb}
use Rattle.m51_isa.specs.Generic.{generic, jump_row}
use Rattle.m51_isa.specs.Search.{search, row_for}
use Rattle.m51_isa.specs.Filling.{with_numbers}

-- a field with what it holds of another number
abbrev pub refilled : FieldSlot → ℕ → FieldSlot
refilled f n = record f { number = kept f.field n }

-- an operand with another number in its field, if it has one
abbrev pub slot_with_number : Slot → ℕ → Slot
slot_with_number (Imm f) n = Imm (refilled f n)
slot_with_number (Plain f) n = Plain (refilled f n)
slot_with_number (NotBit f) n = NotBit (refilled f n)
slot_with_number slot n = slot

-- the number of an operand, 0 where it has none
abbrev pub number_of_slot : Slot → ℕ
number_of_slot (Imm f) = f.number
number_of_slot (Plain f) = f.number
number_of_slot (NotBit f) = f.number
number_of_slot slot = 0

-- the field has room for its number
abbrev pub HasRoom : Slot → Type 0
HasRoom s = slot_with_number s (number_of_slot s) ≡ s

pub record HasNumbers (t : Text) : Type 0 where
  pub first : HasRoom t.first
  pub second : HasRoom t.second
  pub third : HasRoom t.third

-- the row that is found by a text, with the numbers of the text
abbrev pub read_text : Text → Option Instr
read_text t =
    option_map (λ row. with_numbers row (number_of_slot t.first) (number_of_slot t.second) (number_of_slot t.third))
    (search t.mnemonic (look_of t.first) (look_of t.second) (look_of t.third))

-- the row is written with this mnemonic and with operands that look so
pub record HasRowText (word : List ℕ) (a b c : Look) (i : Instr) : Type 0 where
  pub mnemonic : (text_of i).mnemonic ≡ word
  pub first : look_of (text_of i).first ≡ a
  pub second : look_of (text_of i).second ≡ b
  pub third : look_of (text_of i).third ≡ c

-- the mnemonic that is meant: of a generic jump that of the row of its form
abbrev pub meant_by : List ℕ → Jump → Option Verb → List ℕ
meant_by word form (Some verb) = (text_of (jump_row verb form)).mnemonic
meant_by word form None = word

-- numbers that are put into the fields of a row change only the numbers of its text, and not its length
pub record HasText (i j : Instr) (a b c : ℕ) : Type 0 where
  pub same : text_of j
      ≡ text (text_of i).mnemonic (slot_with_number (text_of i).first a) (slot_with_number (text_of i).second b)
      (slot_with_number (text_of i).third c)
  pub length : length_of j ≡ length_of i

-- Each row is found by its own text, and gives itself with the numbers of the text; so two rows that are written
-- alike are one. What is found is written so, and so is the row of a line. No row is written as a generic jump.
pub record TextsAreRows : Type 0 where
  pub found : (i : Instr) → HasNumbers (text_of i) → read_text (text_of i) ≡ Some i
  pub written : (word : List ℕ) (a b c : Look) → IfSome (search word a b c) (HasRowText word a b c)
  pub meant : (word : List ℕ) (form : Jump) (a b c : Look) →
      IfSome (row_for word form a b c) (HasRowText (meant_by word form (generic word a b c)) a b c)
  pub apart : (i : Instr) →
      generic (text_of i).mnemonic (look_of (text_of i).first) (look_of (text_of i).second) (look_of
      (text_of i).third) ≡ None
  pub filled : (i : Instr) (a b c : ℕ) → HasText i (with_numbers i a b c) a b c

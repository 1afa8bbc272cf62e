-- The fields and operands of a disassembled instruction take the numbers that they were decoded with. So each statement
-- of a disassembly gives the bytes of the image at its address: an instruction those it was decoded from.
use Rattle.m51_disasm_proof.proofs
use proofs.Common.{AreBytes, AreSlots, Bool, Field, GivesBytes, HasRoom, Imm, Instr, IsNamed, Jump, List, Meanings}
use proofs.Common.{None, NotBit, Ok, Option, Plain, Slot, Some, Stands, StandsAt, Target, Text, [], ap, arith, body_of}
use proofs.Common.{bytes_at, code_value, common_steps, encoded, false, field_in, length, length_in, length_of, near}
use proofs.Common.{not, number_of_slot, operand_of, operands_of, option_map, refl, relative, row_length, slice_index}
use proofs.Common.{slot_address, take, target_by, target_operand, text_of, texts_are_rows, true, written_target, ℕ, ◌%◌}
use proofs.Common.{◌+◌, ◌<◌, ◌∙◌, ◌∷◌, ◌≡◌}
use Rattle.m51_asm.proofs.ContentFields.{Held}
use Rattle.m51_disasm.specs.Statements.{address_by, all_inside, can_stand, ends_inside, leads_inside, statement_at}
use Rattle.m51_disasm.specs.Statements.{statement_target, stays_inside}
use Rattle.m51_disasm.specs.declared.statement.Content.{Content as Written}
use Rattle.m51_encode.specs.Coding.{coded, coded_by, coded_line, gathered, outcomes, outcomes_by, outcomes_line}
use Rattle.m51_encode.specs.Coding.{three_outcomes}
use Rattle.m51_encode.specs.FieldValues.{addr11_of, field_of, rel_of}
use Rattle.m51_encode.specs.Filling.{filled, held_at, references_of, valued}
use Rattle.m51_encode.specs.Items.{item_field}
use Rattle.m51_encode.specs.JumpForm.{address_after}
use Rattle.m51_encode.specs.declared.coding.Coded.{Coded}
use Rattle.m51_encode.specs.declared.item.Width.TheVariants.{Byte}
use Rattle.m51_encode.specs.declared.reference.FieldValue.TheVariants.{Number}
use Rattle.m51_encode.specs.declared.reference.Reference.{Reference}
use Rattle.m51_expr.specs.Evaluation.{value_of}
use Rattle.m51_expr.specs.Operand.{OperandTree}
use Rattle.m51_expr.specs.Value.{plain}
use Rattle.m51_expr.specs.declared.value.Value.{Value}
use Rattle.m51_isa.specs.Filling.{with_numbers}
use Rattle.m51_isa.specs.Spelling.{text}
use Rattle.m51_isa.specs.Table.{code_of, padded}
use Rattle.m51_isa.specs.TextLaws.{HasNumbers, kept, slot_with_number}
use Rattle.m51_isa.specs.declared.slot.FieldSlot.{FieldSlot}
use Rattle.std.proofs.Common.{nat_le}
use Rattle.std.proofs.lemmas.Bool.{and_parts}
use Rattle.m51_disasm.specs.declared.statement.Content.TheVariants as content
use Rattle.m51_isa.specs.declared.slot.Field.TheVariants as field
use Rattle.m51_expr.specs.Operand as item
use Rattle.m51_cells.specs.declared.kind.Kind.TheVariants as kind
use Rattle.m51_expr.specs.Tree as tree
use proofs.SoundLines.{AreLed, IsDecoded, IsLed, LeadsTo, and_all, by_content, decoded_as, is_data, is_usual, rows_led}
use proofs.SoundLines.{rows_usual, slot_kept, slots_sound, three_at}
use proofs.StatementsRead.{found_row, line_is, own_line, row_is}

-- ---- numbers

rel_back : (next rel : ℕ) → next < 65536 → rel < 256 → ends_inside next rel ≡ true
    → rel_of next (relative next rel) ≡ Some (Number rel)
rel_back next rel low small h = grind (arith, common_steps)

-- the offset in the block of the address that it leads to
block_back : (next address : ℕ) → next < 65536 → address < 2048
    → addr11_of next (near next address % 65536) ≡ Some (Number address)
block_back next address low small = grind (arith, common_steps)

-- ---- values that count as an address

-- an address of the segment of the statement, as a value in that segment or as a number
abbrev as_value : Bool → ℕ → ℕ → Value
as_value true segment address = code_value segment address
as_value false segment address = plain address kind.Number

-- ---- numbers that a field holds as they are

-- fields of one number below 256
abbrev is_byte : Field → Bool
is_byte field.Data = true
is_byte field.Direct = true
is_byte field.Bit = true
is_byte at = false

byte_back : (names : Meanings) (at : Field) (next n : ℕ) → is_byte at ≡ true → n < 256
    → field_of names at next (plain n kind.Number) ≡ Some (Number n)
unfolding field_of
byte_back names at next n is low = grind (arith, common_steps)

abbrev field_at : Field → ℕ → ℕ → FieldSlot
field_at at byte number = record { field = at; byte = byte; number = number }

-- what an operand of a row holds: its number, and no reference
abbrev byte_in : Slot → ℕ
byte_in (Imm f) = f.byte
byte_in (Plain f) = f.byte
byte_in (NotBit f) = f.byte
byte_in s = 0

abbrev number_held : ℕ → ℕ → Held
number_held byte number = held_at byte (Number number)

abbrev held_in : Slot → Held
held_in s = number_held (byte_in s) (number_of_slot s)

-- what is found in a field goes into it
number_given : (names : Meanings) (next : ℕ) (at : Field) (byte m number : ℕ)
    → field_of names at next (plain m kind.Number) ≡ Some (Number number)
    → valued names next at byte (value_of names (tree.Number m)) ≡ Ok (number_held byte number)
unfolding value_of
number_given names next at byte m number e = grind (arith, common_steps)

-- a field of one byte takes the low byte
byte_given : (names : Meanings) (next : ℕ) (at : Field) (byte number : ℕ) → is_byte at ≡ true → kept at number ≡ number
    → valued names next at byte (value_of names (tree.Number (number % 256))) ≡ Ok (number_held byte number)
byte_given names next at byte number is same =
    let back = byte_back names at next (number % 256) is in
    grind (arith, common_steps, number_given names next at byte (number % 256) number)

module _ (names : Meanings) (segment at : ℕ) (s : StandsAt names segment at) where
  -- a field that leads to an address takes the number that it was decoded with
  address_back : (own : Bool) (at : Field) (next number address : ℕ) → kept at number ≡ number
      → leads_inside next at number ≡ true
      → address_by next at number ≡ Some address
      → field_of names at (next % 65536) (as_value own segment address) ≡ Some (Number number)
  unfolding field_of leads_inside address_by
  address_back own at next number address holds inside leads =
      grind (arith, common_steps, rel_back next number, block_back next number)

  target_given : (next : ℕ) (f : FieldSlot) (address : ℕ) (t : Target) → kept f.field f.number ≡ f.number
      → leads_inside next f.field f.number ≡ true
      → address_by next f.field f.number ≡ Some address → LeadsTo address t → IsNamed names segment t
      → filled names (next % 65536) (Some f) (target_operand t) ≡ Ok (held_in (Plain f))
  unfolding value_of
  target_given next f address t same inside to leads named =
      let back = address_back leads.label f.field next f.number address same inside to in
      grind (arith, common_steps)

  address_given : (t : Target) (next : ℕ) (at : Field) (byte number : ℕ) → not (is_data at) ≡ true
      → kept at number ≡ number → leads_inside next at number ≡ true
      → IsLed t (address_by next at number) → IsNamed names segment t
      → filled names (next % 65536) (Some (field_at at byte number))
      (operand_of t (Plain (field_at at byte number))) ≡ Ok (number_held byte number)
  unfolding address_by
  address_given t next at byte number usual same inside led named =
      let block = near next number % 65536 in
      let to = λ (address : ℕ). target_given next (field_at at byte number) address t in
      let leads = led block in
      let given = byte_given names (next % 65536) at byte number in
      grind (
        arith,
        common_steps,
        to (relative next number),
        to block,
        to number,
        led (relative next number),
        led number,
      )

  -- an operand gives the number that it was decoded with
  slot_given : (t : Target) (next : ℕ) (o : Slot) → is_usual o ≡ true → HasRoom o
      → stays_inside next (field_in o) ≡ true
      → IsLed t (slot_address next (field_in o)) → IsNamed names segment t
      → filled names (next % 65536) (field_in o) (operand_of t o) ≡ Ok (held_in o)
  unfolding field_of
  slot_given t next (Imm f) usual room inside led named =
      let n = next % 65536 in
      let whole = number_given names n f.field f.byte f.number f.number in
      grind (arith, common_steps, ap number_of_slot room, byte_given names n f.field f.byte f.number)
  slot_given t next (Plain f) usual room inside led named =
      address_given t next f.field f.byte f.number usual (ap number_of_slot room) inside led named
  slot_given t next (NotBit f) usual room inside led named =
      grind (arith, common_steps, ap number_of_slot room, byte_given names (next % 65536) f.field f.byte f.number)
  slot_given t next o usual room inside led named = refl

-- ---- instructions and statements

-- what is found, from which a value is made
made : {A B : Type 0} (o : Option A) (f : A → B) (y : B) → option_map f o ≡ Some y
    → (x : A) × (o ≡ Some x) × (f x ≡ y)
made None f y h = absurd (cc h)
made (Some x) f y h = (x, refl, cc h)

-- the number of the row's own operand does not matter
same_filled : (names : Meanings) (next m : ℕ) (s : Slot) (o : Option OperandTree)
    → filled names next (field_in (slot_with_number s m)) o ≡ filled names next (field_in s) o
same_filled names next m s o = grind (arith, common_steps)

-- ---- what is coded

-- no byte of an instruction has a reference
abbrev no_references : List (Option Reference)
no_references = None ∷ None ∷ None ∷ []

-- nothing that operands hold is left to the linker
none_held : (a b c : Slot) → references_of (held_in a) (held_in b) (held_in c) ≡ no_references
none_held a b c = grind (arith, common_steps)

-- the code of a row
abbrev coded_from : Instr → List (Option Reference) → Coded
coded_from i references = record { code = code_of (encoded i); references = references }

module _ (names : Meanings) (segment at : ℕ) (s : StandsAt names segment at) (t : Target) (i : Instr) (form : Jump)
    (h : AreSlots t (text_of i)) (has : HasNumbers (text_of i))
    (inside : all_inside (at + row_length i) (text_of i) ≡ true)
    (led : AreLed t (at + row_length i) (text_of i)) (named : IsNamed names segment t) where
  abbrev n1 : ℕ
  n1 = number_of_slot (text_of i).first

  abbrev n2 : ℕ
  n2 = number_of_slot (text_of i).second

  abbrev n3 : ℕ
  n3 = number_of_slot (text_of i).third

  -- the row that is found, with the numbers of the text
  the_row : (x : Instr) × (found_row i ≡ Some x) × (with_numbers x n1 n2 n3 ≡ i)
  the_row = made _ _ _ (texts_are_rows.found i has)

  abbrev row : Instr
  row = the_row.0

  next_is : address_after names (row_length row) ≡ (at + row_length i) % 65536
  next_is = grind (arith, common_steps, the_row.2, texts_are_rows.filled row n1 n2 n3)

  text_same : text_of i ≡ text (text_of row).mnemonic (slot_with_number (text_of row).first n1)
      (slot_with_number (text_of row).second n2) (slot_with_number (text_of row).third n3)
  text_same = grind (arith, common_steps, the_row.2, texts_are_rows.filled row n1 n2 n3)

  -- an operand gives in the row that is found what it gives in the row
  given : (x y : Slot) (m : ℕ) → x ≡ slot_with_number y m → is_usual x ≡ true → HasRoom x
      → stays_inside (at + row_length i) (field_in x) ≡ true
      → IsLed t (slot_address (at + row_length i) (field_in x))
      → filled names (address_after names (row_length row)) (field_in y) (operand_of t x) ≡ Ok (held_in x)
  given x y m same usual room in_memory leads =
      let is_given = slot_given names segment at s t (at + row_length i) x usual room in_memory leads named in
      grind (arith, common_steps, next_is, same_filled names ((at + row_length i) % 65536) m y (operand_of t x))

  -- an instruction is coded as the row that it was decoded from, and no operand has a fault or is left to the linker
  code_back : let m = (text_of i).mnemonic in
      let operands = operands_of t (text_of i) in
      (coded names m operands form ≡ Ok (coded_from i no_references))
      × (outcomes names m operands form ≡ Stands ∷ Stands ∷ Stands ∷ [])
  unfolding coded outcomes
  code_back =
      let usual = rows_usual i in
      let stays = λ (x : Slot). stays_inside (at + row_length i) (field_in x) in
      let all_in =
      and_all (stays (text_of i).first) (stays (text_of i).second) (stays (text_of i).third) inside in
      let a = given (text_of i).first (text_of row).first n1 (ap (λ (x : Text). x.first) text_same) usual.0 has.first
      all_in.0 led.first in
      let b = given (text_of i).second (text_of row).second n2 (ap (λ (x : Text). x.second) text_same) usual.1
      has.second all_in.1 led.second in
      let c = given (text_of i).third (text_of row).third n3 (ap (λ (x : Text). x.third) text_same) usual.2 has.third
      all_in.2 led.third in (
        ap (coded_line names) (line_is t i h form)
            ∙ ap (coded_by names (own_line t i form)) (row_is t i h form ∙ the_row.1)
            ∙ (λ j. gathered row (a j) (b j) (c j))
            ∙ (λ j. Ok (coded_from (the_row.2 j)
            (none_held (text_of i).first (text_of i).second (text_of i).third j))),
        ap (outcomes_line names) (line_is t i h form)
            ∙ ap (outcomes_by names (own_line t i form)) (row_is t i h form ∙ the_row.1)
            ∙ (λ j. three_outcomes (a j) (b j) (c j)),
      )

-- at most three bytes that the image has at an address are those there
front_is : (image : List ℕ) (at : ℕ) (bytes : List ℕ) → bytes ≡ take (length bytes) (three_at image at)
    → take (length bytes) (padded bytes) ≡ bytes_at image at (length bytes)
front_is image at [] e = refl
front_is image at (a ∷ []) e = grind (arith, common_steps, e)
front_is image at (a ∷ b ∷ []) e = grind (arith, common_steps, e)
front_is image at (a ∷ b ∷ c ∷ []) e = grind (arith, common_steps, e)
front_is image at (a ∷ b ∷ c ∷ d ∷ rest) e = cc e

module _ (image : List ℕ) (end at : ℕ) (bytes : AreBytes image) (begin : List ℕ) (names : Meanings) (segment : ℕ)
    (form : Jump) (s : StandsAt names segment at) where
  abbrev byte : ℕ
  byte = slice_index image at

  bytes_are : (i : Instr) → IsDecoded (three_at image at) i → take (length_of i) (padded (encoded i))
      ≡ bytes_at image at (length_of i)
  bytes_are i decoded = front_is image at (encoded i) decoded.row

  abbrev target_to : Written → Target
  target_to c = written_target begin (target_by at c)

  abbrev Gives : Written → Type 0
  Gives c = IsNamed names segment (target_to c)
      → GivesBytes names form (body_of (target_to c) c) (bytes_at image at (length_in c))

  code_gives : (i : Instr) → IsDecoded (three_at image at) i → can_stand end at i ≡ true → Gives (content.Code i)
  unfolding can_stand
  code_gives i row stands named =
      let next = at + length_of i in
      let x = text_of i in
      let led = rows_led begin next i in
      let h = code_back names segment at s (target_to (content.Code i)) i form
      (slots_sound _ next i row led)
      (grind (arith, slot_kept x.first, slot_kept x.second, slot_kept x.third))
      (and_parts (nat_le next end) (all_inside next x) stands).1 led named in
      grind (arith, common_steps, bytes_are i row)

  byte_field : item_field names Byte (item.Value (tree.Number byte)) ≡ Ok (Some (Number byte))
  unfolding value_of
  byte_field = grind (arith, common_steps, byte_back names field.Data 0 byte refl (bytes at))

  byte_gives : Gives (content.Byte byte)
  byte_gives named =
      grind (arith, common_steps, byte_field)

  -- a statement gives the bytes of the image at its address
  pub statement_gives : let x = statement_at image end at in
      let t = written_target begin (statement_target x) in
      IsNamed names segment t → GivesBytes names form (body_of t x.content) (bytes_at image at (length_in x.content))
  unfolding statement_at statement_target
  statement_gives =
      by_content image end at Gives (λ i e stands. code_gives i (decoded_as image bytes at i e) stands) byte_gives

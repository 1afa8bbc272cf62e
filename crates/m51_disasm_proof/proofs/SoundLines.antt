-- What bytes are decoded as has these bytes and numbers that its fields have room for. The statements of a part follow
-- one another from its base to its end, each line can be written, and labels ascend.
use Rattle.m51_disasm_proof.proofs
use proofs.Common.{AreBytes, AreSlots, AtR, Bool, CodeRange, Content, Field, HasRoom, IfSome, Imm, Instr, IsAddress}
use proofs.Common.{IsContent, IsLabel, IsSlot, IsTarget, List, None, Nop, NotBit, Option, Plain, R, Slot, Some}
use proofs.Common.{SourceLine, Statement, Target, Text, [], ap, append_assoc, arith, beginnings, common_steps, cond}
use proofs.Common.{encoded, false, field_in, flat_map, is_among, length_in, length_of, map, nat_lt, nat_tests, near}
use proofs.Common.{not, number_of_slot, option_map, refl, relative, slice_index, slot_address, statement_lines}
use proofs.Common.{statements_of, suc, sym, take, target_by, targets, text_of, true, written_target, zero, ℕ, ◌%◌, ◌&&◌}
use proofs.Common.{◌++◌, ◌+◌, ◌-◌, ◌/◌, ◌<◌, ◌==◌, ◌||◌, ◌∙◌, ◌∷◌, ◌≡◌, ◌≤◌}
use Rattle.m51_disasm.specs.Lines.{line_of, lines_of, part_lines}
use Rattle.m51_disasm.specs.Statements.{address_by, address_of, can_stand, content_of, instr_in_image, statement_at}
use Rattle.m51_disasm.specs.Statements.{statement_target, statements_from}
use Rattle.m51_isa.proofs.Codes.{rows_are_short}
use Rattle.m51_isa.specs.Table.{decoded_at}
use Rattle.std.proofs.Common.{get_or, ◌*◌}
use Rattle.std.proofs.lemmas.Bool.{cond_both}
use Rattle.std.proofs.lemmas.List.FromFn.{get_or-map-range_with_len}
use Rattle.std.specs.List.{range_with_len}
use Rattle.std.specs.Option.{option_or}
use Rattle.m51_disasm.specs.declared.statement.Content.TheVariants as content
use Rattle.m51_isa.specs.declared.slot.Field.TheVariants as field
use Rattle.m51_disasm.specs.declared.line.SourceLine.TheVariants as line
use Rattle.m51_disasm.specs.declared.line.Target.TheVariants as target
use proofs.LinesStand.{AreGood, AreInOrder, LiesFrom, after_label}

-- ---- room in fields

abbrev pub FitsIn : Field → ℕ → Type 0
FitsIn field.Data16 n = n < 65536
FitsIn field.Addr16 n = n < 65536
FitsIn field.Addr11 n = n < 2048
FitsIn at n = n < 256

-- the number of an operand has room where it is written
abbrev pub FitsSlot : Slot → Type 0
FitsSlot (R n) = n < 8
FitsSlot (AtR n) = n < 2
FitsSlot (Imm f) = FitsIn f.field f.number
FitsSlot (Plain f) = FitsIn f.field f.number
FitsSlot (NotBit f) = FitsIn f.field f.number
FitsSlot s = Unit {0}

-- so a field holds it
pub slot_kept : (s : Slot) → FitsSlot s → HasRoom s
slot_kept s h = grind (arith, common_steps)

-- an instruction that these bytes are decoded as
pub record IsDecoded (bytes : List ℕ) (i : Instr) : Type 0 where
  pub row : encoded i ≡ take (length_of i) bytes
  pub first : FitsSlot (text_of i).first
  pub second : FitsSlot (text_of i).second
  pub third : FitsSlot (text_of i).third

-- ---- all opcodes

pub and_all : (a b c : Bool) → (a && b && c) ≡ true → (a ≡ true) × (b ≡ true) × (c ≡ true)
and_all a b c h = grind (arith, common_steps)

abbrev is_fit : Slot → Bool
is_fit (R n) = nat_lt n 8
is_fit (AtR n) = nat_lt n 2
is_fit s = true

abbrev all_fit : Text → Bool
all_fit t = is_fit t.first && is_fit t.second && is_fit t.third

module _ (second third : ℕ) where
  -- the number in a field that begins at a byte
  abbrev in_field : ℕ → Field → ℕ → ℕ
  in_field first field.Data16 byte = second * 256 + third
  in_field first field.Addr16 byte = second * 256 + third
  in_field first field.Addr11 byte = first / 32 * 256 + second
  in_field first at byte = cond (byte == 1) second third

  abbrev in_slot : ℕ → Slot → ℕ
  in_slot first (Imm f) = in_field first f.field f.byte
  in_slot first (Plain f) = in_field first f.field f.byte
  in_slot first (NotBit f) = in_field first f.field f.byte
  in_slot first s = 0

  -- the three bytes, as rows of an addr11 and of a word write them
  abbrev written_by : ℕ → Bool → Bool → List ℕ
  written_by first true word =
      (first % 32 + 32 * ((first / 32 * 256 + second) / 256)) ∷ ((first / 32 * 256 + second) % 256) ∷ third ∷ []
  written_by first false true = first ∷ ((second * 256 + third) / 256) ∷ ((second * 256 + third) % 256) ∷ []
  written_by first false false = first ∷ second ∷ third ∷ []

  abbrev written : ℕ → List ℕ
  written first = written_by first (first % 16 == 1) (first == 0x02 || (first == 0x12 || first == 0x90))

  -- what is compared: the bytes, the numbers, and whether registers exist
  abbrev Seen : Type 0
  Seen = List ℕ × List ℕ × Bool

  abbrev seen : List ℕ → (Slot → ℕ) → Bool → Text → Seen
  seen bytes number fit t = (bytes, number t.first ∷ number t.second ∷ number t.third ∷ [], fit)

  abbrev of_row : ℕ → Instr → Seen
  of_row first i = seen (encoded i) number_of_slot (all_fit (text_of i)) (text_of i)

  abbrev of_bytes : ℕ → Instr → Seen
  of_bytes first i = seen (take (length_of i) (written first)) (in_slot first) true (text_of i)

  abbrev shown_as : (ℕ → Instr → Seen) → ℕ → Option Seen
  shown_as f first = option_map (f first) (decoded_at first second third)

  all_are : map (shown_as of_row) (range_with_len 0 256) ≡ map (shown_as of_bytes) (range_with_len 0 256)
  all_are = refl

  one_is : (first : ℕ) → first < 256 → shown_as of_row first ≡ shown_as of_bytes first
  one_is first f =
      sym (get_or-map-range_with_len (shown_as of_row) 0 256 first first None f (omega arith))
      ∙ ap (λ (seen : List (Option Seen)). get_or seen first None) all_are
      ∙ get_or-map-range_with_len (shown_as of_bytes) 0 256 first first None f (omega arith)

module _ (first second third : ℕ) (f : first < 256) (s : second < 256) (t : third < 256) where
  written_is : (b c : Bool) → written_by second third first b c ≡ first ∷ second ∷ third ∷ []
  written_is b c = grind (arith, common_steps)

  field_fits : (at : Field) (byte : ℕ) → FitsIn at (in_field second third first at byte)
  field_fits at byte = grind (arith, common_steps)

  slot_fits : (x : Slot) → is_fit x ≡ true → number_of_slot x ≡ in_slot second third first x → FitsSlot x
  slot_fits x fit e = grind (arith, common_steps, field_fits)

  by_row : (o : Option Instr)
      → option_map (of_row second third first) o ≡ option_map (of_bytes second third first) o
      → IfSome o (IsDecoded (first ∷ second ∷ third ∷ []))
  by_row None e = tt
  by_row (Some i) e =
      let same : of_row second third first i ≡ of_bytes second third first i = cc e in
      let fit = and_all (is_fit (text_of i).first) (is_fit (text_of i).second) (is_fit (text_of i).third)
      (ap (λ (x : Seen second third). x.2) same) in
      let numbers = ap (λ (x : Seen second third). x.1) same in
      let x = text_of i in
      let row : encoded i ≡ take (length_of i) (first ∷ second ∷ third ∷ []) =
      grind (arith, common_steps, written_is) in
      grind (arith, fit, numbers, slot_fits x.first, slot_fits x.second, slot_fits x.third)

  -- what three bytes are decoded as is written with them, and its numbers have room
  pub decoded_rows : IfSome (decoded_at first second third) (IsDecoded (first ∷ second ∷ third ∷ []))
  decoded_rows = by_row (decoded_at first second third) (one_is second third first f)

abbrev pub is_data : Field → Bool
is_data field.Data = true
is_data field.Data16 = true
is_data other = false

abbrev pub is_bit : Field → Bool
is_bit field.Bit = true
is_bit other = false

-- data are written after #, an address is not, and only a bit is written after /
abbrev pub is_usual : Slot → Bool
is_usual (Imm f) = is_data f.field
is_usual (Plain f) = not (is_data f.field)
is_usual (NotBit f) = is_bit f.field
is_usual s = true

pub rows_usual : (i : Instr) → (is_usual (text_of i).first ≡ true) × (is_usual (text_of i).second ≡ true)
    × (is_usual (text_of i).third ≡ true)
rows_usual i = grind (arith, common_steps)

-- a target that is written as a label or as a number
pub record LeadsTo (address : ℕ) (t : Target) : Type 0 where
  pub label : Bool
  pub is : t ≡ cond label (target.Label address) (target.Number address)

-- the address to which an operand leads, if there is one, is that of the target
abbrev pub IsLed : Target → Option ℕ → Type 0
IsLed t o = (address : ℕ) → o ≡ Some address → LeadsTo address t

pub record AreLed (t : Target) (next : ℕ) (x : Text) : Type 0 where
  pub first : IsLed t (slot_address next (field_in x.first))
  pub second : IsLed t (slot_address next (field_in x.second))
  pub third : IsLed t (slot_address next (field_in x.third))

abbrev at_most_one : Option ℕ → Option ℕ → Option ℕ → Bool
at_most_one None None c = true
at_most_one None (Some b) None = true
at_most_one (Some a) None None = true
at_most_one a b c = false

one_leads : (next : ℕ) (i : Instr)
    → at_most_one (slot_address next (field_in (text_of i).first)) (slot_address next (field_in (text_of i).second))
    (slot_address next (field_in (text_of i).third)) ≡ true
unfolding address_by
one_leads next Nop = refl
one_leads next i = refl

leads_to : (begin : List ℕ) (o : Option ℕ) → IsLed (written_target begin o) o
leads_to begin o address e = rw e (record { label = is_among begin address; is = refl })

by_option : (begin : List ℕ) (a b c : Option ℕ) → at_most_one a b c ≡ true
    → let t = written_target begin (option_or a (option_or b c)) in IsLed t a × IsLed t b × IsLed t c
by_option begin a b c one = grind (arith, common_steps, leads_to begin a, leads_to begin b, leads_to begin c)

-- the operands of a row lead to the target that is written
pub rows_led : (begin : List ℕ) (next : ℕ) (i : Instr)
    → AreLed (written_target begin (address_of next (text_of i))) next (text_of i)
rows_led begin next i =
    grind (arith, by_option begin, one_leads next i)

-- a statement of a part with this end: that at an address of the part, within it
pub record IsHere (image : List ℕ) (end at : ℕ) (s : Statement) : Type 0 where
  pub at_is : at ≡ s.at
  pub is : s ≡ statement_at image end at
  pub some : 1 ≤ length_in s.content
  pub ends : at + length_in s.content ≤ end

-- these statements are those of the part from an address on
abbrev pub Follow : List ℕ → ℕ → ℕ → List Statement → Type 0
Follow image end at [] = at ≡ end
Follow image end at (s ∷ statements) = IsHere image end at s × Follow image end (at + length_in s.content) statements

-- what holds of a decoded instruction that can be written, and of a byte, holds of the statement at an address
pub by_content : (image : List ℕ) (end at : ℕ) (P : Content → Type 0)
    → ((i : Instr) → instr_in_image image at ≡ Some i → can_stand end at i ≡ true → P (content.Code i))
    → P (content.Byte (slice_index image at)) → P (statement_at image end at).content
unfolding statement_at
by_content image end at P code byte = of_instr (instr_in_image image at) refl
  where
    of_instr : (o : Option Instr) → instr_in_image image at ≡ o → P (content_of end at (slice_index image at) o)
    of_instr None e = byte
    of_instr (Some i) e =
        cond_both (can_stand end at i) (content.Code i) (content.Byte (slice_index image at)) P (code i e) (λ no. byte)

-- a statement has a byte, and does not pass the end
content_within : (image : List ℕ) (end at : ℕ) → at < end
    → let c = (statement_at image end at).content in (1 ≤ length_in c) × (at + length_in c ≤ end)
unfolding can_stand
content_within image end at below =
    by_content image end at (λ c. (1 ≤ length_in c) × (at + length_in c ≤ end))
    (λ i e stands. grind (arith, nat_tests, rows_are_short i, stands)) (omega arith, omega arith)

follow : (image : List ℕ) (end passed at more from : ℕ) → from ≡ at + passed → at + more ≡ end → passed ≤ more
    → Follow image end from (statements_from image end passed at more)
unfolding statements_from statement_at
follow image end passed at zero from e ends fits = omega arith
follow image end (suc passed) at (suc more) from e ends fits =
    follow image end passed (at + 1) more from (omega arith) (omega arith) (omega arith)
follow image end zero at (suc more) from e ends fits =
    let here : from ≡ at = omega arith in
    let s : Statement = statement_at image end at in
    let within = content_within image end at (omega arith) in (
      grind arith,
      follow image end (length_in s.content - 1) (at + 1) more (from + length_in s.content)
          (omega arith) (omega arith) (omega arith),
    )

pub part_follows : (image : List ℕ) (part : CodeRange)
    → Follow image (part.base + part.size) part.base (statements_of image part)
part_follows image part =
    follow image (part.base + part.size) 0 part.base part.size part.base (omega arith) refl (omega arith)

-- ---- the lines, part by part

-- the line of a statement of a part
abbrev pub line_in : List ℕ → CodeRange → Statement → SourceLine
line_in image part = line_of (beginnings (statements_of image part)) (targets (statements_of image part))

-- the lines of parts, and END
abbrev pub rest_of : List ℕ → List CodeRange → List SourceLine
rest_of image [] = line.End ∷ []
rest_of image (part ∷ parts) =
    line.Segment part.base ∷ (statement_lines (statements_of image part) ++ rest_of image parts)

-- the lines of these statements of a part, and of the parts after it
abbrev pub lines_in : List ℕ → CodeRange → List CodeRange → List Statement → List SourceLine
lines_in image part parts statements = map (line_in image part) statements ++ rest_of image parts

-- all lines
abbrev pub whole : List ℕ → List CodeRange → List SourceLine
whole image parts = line.Nomod51 ∷ rest_of image parts

rest_is : (image : List ℕ) (parts : List CodeRange)
    → flat_map (part_lines image) parts ++ line.End ∷ [] ≡ rest_of image parts
unfolding part_lines
rest_is image [] = refl
rest_is image (part ∷ parts) = grind (arith, common_steps, append_assoc, rest_is image parts)

-- what holds of these lines holds of the lines of a disassembly
pub of_whole : (image : List ℕ) (parts : List CodeRange) (P : List SourceLine → Type 0) → P (whole image parts)
    → P (lines_of image parts)
unfolding lines_of
of_whole image parts P h = rw (rest_is image parts) h

-- ---- statements

target_sound : (t : Target) (address : ℕ) → LeadsTo address t → address < 65536 → IsTarget t
target_sound t address led h = grind (arith, common_steps)

-- a field is one of a byte, or it leads to the target
address_sound : (t : Target) (next : ℕ) (at : Field) (number : ℕ) → not (is_data at) ≡ true → FitsIn at number
    → IsLed t (address_by next at number) → IsAddress t at
unfolding address_by
address_sound t next at number usual fits led =
    grind (
      arith,
      common_steps,
      led (relative next number),
      led (near next number % 65536),
      led number,
      target_sound t (relative next number),
      target_sound t (near next number % 65536),
      target_sound t number,
    )

slot_sound : (t : Target) (next : ℕ) (s : Slot) → is_usual s ≡ true → FitsSlot s
    → IsLed t (slot_address next (field_in s))
    → IsSlot t s
slot_sound t next s usual fits led = grind (arith, common_steps, address_sound t next)

-- the operands of a decoded instruction that leads where its fields say
pub slots_sound : (t : Target) (next : ℕ) {bytes : List ℕ} (i : Instr) → IsDecoded bytes i → AreLed t next (text_of i)
    → AreSlots t (text_of i)
slots_sound t next i h led =
    let x = text_of i in
    let one = slot_sound t next in
    grind (arith, rows_usual i, one x.first, one x.second, one x.third)

-- the bytes at an address of an image
abbrev pub three_at : List ℕ → ℕ → List ℕ
three_at image at = slice_index image at ∷ slice_index image (at + 1) ∷ slice_index image (at + 2) ∷ []

pub decoded_as : (image : List ℕ) → AreBytes image → (at : ℕ) (i : Instr) → instr_in_image image at ≡ Some i
    → IsDecoded (three_at image at) i
unfolding instr_in_image
decoded_as image bytes at i e =
    rw e at (decoded_rows (slice_index image at) (slice_index image (at + 1)) (slice_index image (at + 2)) (bytes at)
    (bytes (at + 1)) (bytes (at + 2)))

label_first : (b : Bool) (low at next : ℕ) → low ≤ at → at < 65536 → at + 1 ≤ next
    → let label = cond b (Some at) None in LiesFrom low label × (after_label low label ≤ next) × IsLabel label
label_first b low at next from small le = grind (arith, common_steps)

module _ (image : List ℕ) (bytes : AreBytes image) where
  statement_sound : (begin : List ℕ) (end at : ℕ) → let s = statement_at image end at in
      IsContent (written_target begin (statement_target s)) s.content
  unfolding statement_at statement_target
  statement_sound begin end at =
      by_content image end at (λ c. IsContent (written_target begin (target_by at c)) c)
      (λ i e stands. slots_sound _ (at + length_of i) i (decoded_as image bytes at i e)
      (rows_led begin (at + length_of i) i))
      (bytes at)

  statements_good : (part : CodeRange) (parts : List CodeRange) (statements : List Statement) (at low : ℕ)
      → Follow image (part.base + part.size) at statements → part.base + part.size ≤ 65536 → low ≤ at
      → ((next : ℕ) → next ≤ part.base + part.size → AreGood next (rest_of image parts))
      → AreGood low (lines_in image part parts statements)
  statements_good part parts [] at low follow ends from more = more low (omega arith)
  statements_good part parts (s ∷ statements) at low follow ends from more =
      let here = follow.0 in
      let label = label_first (is_among (targets (statements_of image part)) s.at) low s.at (at + length_in s.content)
      (omega arith) (omega arith) (omega arith) in (
        record { label = label.2; content = rw here.is (statement_sound _ _ at) },
        label.0,
        statements_good part parts statements (at + length_in s.content) _ follow.1 ends label.1 more,
      )

  parts_good : (parts : List CodeRange) (low next : ℕ) → AreInOrder low parts → next ≤ low
      → AreGood next (rest_of image parts)
  parts_good [] low next order le = (tt, tt, tt)
  parts_good (part ∷ parts) low next order le =
      let ends = order.1.ends in (
        omega arith,
        tt,
        statements_good part parts _ part.base next (part_follows image part) ends (omega arith)
            (λ n below. parts_good parts (part.base + part.size) n order.2 below),
      )

  -- all lines can be written, and their labels ascend
  pub whole_good : (parts : List CodeRange) → AreInOrder 0 parts → AreGood 0 (whole image parts)
  whole_good parts order = (tt, tt, parts_good parts 0 0 order (omega arith))

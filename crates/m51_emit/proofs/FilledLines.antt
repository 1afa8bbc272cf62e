-- What lines give: their references lie in it, it has their size, and its faults are six.
use Rattle.std.proofs.Common.{◌≡◌, ℕ, zero, suc, ◌+◌, Bool, true, ◌&&◌, cond, List, [], ◌∷◌, length, take, Option, Some}
use Rattle.std.proofs.Common.{None, refl, ◌≤◌, ◌++◌, map, ap, sym, subst, ◌∙◌, append_assoc, length-append, add_assoc}
use Rattle.std.proofs.Common.{arith, inl, inr, Ok, Err, ◌*◌, ◌⊎◌, false}
use Rattle.std.specs.List.{AllByRecursion}
use Rattle.std.specs.Option.{option_map}
use Rattle.std.specs.Prelude.{◌==◌, nat_le, IfSome, slice_get, IfOk, IsOk, unwrap_or, nat_lt}
use Rattle.std.proofs.lemmas.List.{map-append}
use Rattle.std.proofs.lemmas.Bool.{and_parts, leb-true}
use Rattle.std.proofs.lemmas.Option.{same_Some}
use Rattle.m51_isa.specs.declared.instr.Instr.{Instr}
use Rattle.m51_isa.specs.declared.instr.Instr.TheVariants.{Nop}
use Rattle.m51_isa.specs.declared.slot.Field.{Field}
use Rattle.m51_isa.specs.declared.slot.Field.TheVariants.{Data16, Addr16, Addr11, Rel}
use Rattle.m51_isa.specs.declared.slot.FieldSlot.{FieldSlot}
use Rattle.m51_isa.specs.Spelling.{Text, field_in, text_of}
use Rattle.m51_isa.specs.Table.{encoded, code_of, length_of as row_length}
use Rattle.m51_module.specs.Validity.{field_len}
use Rattle.m51_isa.specs.declared.slot.Slot.{Slot}
use Rattle.m51_isa.specs.declared.slot.Slot.TheVariants.{Imm, Plain, NotBit}
use Rattle.m51_expr.specs.declared.value.Part.{Part}
use Rattle.m51_expr.specs.declared.value.Part.TheVariants.{Whole, High, Low, Bit}
use Rattle.m51_expr.specs.declared.value.Value.{Value}
use Rattle.m51_expr.specs.Value.{Valued}
use Rattle.m51_expr.specs.Tree.{Tree}
use Rattle.m51_expr.specs.Meanings.{Meanings}
use Rattle.m51_expr.specs.Evaluation.{value_of}
use Rattle.m51_expr.specs.Operand.{OperandTree, ItemTree}
use Rattle.m51_module.proofs.FieldLengths.{some_byte}
use Rattle.m51_encode.specs.declared.coding.Coded.{Coded}
use Rattle.m51_encode.specs.declared.reference.Reference.{Reference}
use Rattle.m51_encode.specs.Reference.{form_of}
use Rattle.m51_encode.specs.Coding.{Line, coded_line, coded, outcomes, instruction_line, line_row}
use Rattle.m51_encode.specs.Coding.{outcomes_by as row_outcomes, outcomes_line}
use Rattle.m51_encode.specs.JumpForm.{address_after}
use Rattle.m51_encode.specs.Meaning.{IsReferenceOf, References, GivesField, Fills, byte_of, StandsFor}
use Rattle.m51_isa.specs.declared.generics.Jump.{Jump}
use Rattle.m51_encode.specs.declared.item.Width.{Width}
use Rattle.m51_encode.specs.declared.item.Width.TheVariants.{Byte, Word}
use Rattle.m51_encode.specs.declared.outcome.OperandOutcome.{OperandOutcome}
use Rattle.m51_encode.specs.declared.outcome.OperandOutcome.TheVariants.{Faulty, Fixes, Stands}
use Rattle.m51_encode.specs.declared.reference.FieldValue.{FieldValue}
use Rattle.m51_encode.specs.declared.reference.FieldValue.TheVariants.{Number, Linked}
use Rattle.m51_encode.specs.Filling.{Answer, and_then, fielded, filled}
use Rattle.m51_encode.specs.Items.{field_of_width, field_bytes, item_field}
use Rattle.m51_encode.specs.Outcomes.{first_faulty, linked, operand_outcome}
use Rattle.m51_encode.specs.OutcomeLaws.{IsFaultOrCoded, FailsAsOperand}
use Rattle.m51_encode.specs.Lengths.{HasRow}
use Rattle.m51_encode.proofs.FormRows.{forms_have_rows}
use Rattle.m51_encode.proofs.Standing.{coded_stands_for_line}
use Rattle.m51_encode.proofs.ToldOutcomes.{outcomes_tell}
use Rattle.m51_cells.specs.declared.fault.TheConstants.{OUT_OF_RANGE, TOO_MANY}
use Rattle.m51_cells.specs.declared.limits.TheConstants.{MOST_FIXUPS}
use Rattle.m51_expr.specs.FaultLaws.{IsFaultOfValue}
use Rattle.m51_expr.proofs.ValueFaults.{values_fail_by_four}
use Rattle.m51_encode.proofs.OperandFaults.{fielded_fails, filled_fails}
use Rattle.m51_stmt.specs.Statement.{Code, Db, Dw}
use Rattle.m51_emit.specs.Content.{EmittedContent, ReferenceAt, nothing, later, followed_by, joined, placed_from}
use Rattle.m51_emit.specs.Content.{coded_content, item_outcome, item_given, item_content}
use Rattle.m51_emit.specs.Within.{LieFrom, LieInside}
use Rattle.m51_emit.specs.Outcomes.{made_with, part_fault, or_next, leftmost_fault}
use Rattle.m51_emit.specs.Sizes.{items_size, AreValues}
use Rattle.m51_emit.specs.ContentLaws.{InstructionsAreCoded, InstructionsFill, BytesFill, WordsFill, IsFaultOfContent}
use Rattle.m51_emit.specs.ContentLaws.{ContentFailsBySix}
use Rattle.m51_expr.specs.Operand as item

-- The fields of each row lie in its bytes, in ascending order, and none overlaps the next.

-- how many bytes a field has
abbrev pub width_of : Field → ℕ
width_of Data16 = 2
width_of Addr16 = 2
width_of Addr11 = 2
width_of at = 1

-- the width of a field that begins at the byte, or another width
abbrev pub width_or : ℕ → Option FieldSlot → ℕ → ℕ
width_or byte (Some f) other = cond (f.byte == byte) (width_of f.field) other
width_or byte None other = other

-- the width of the field of a text that begins at the byte, or 0
abbrev pub width_at : Text → ℕ → ℕ
width_at t byte = width_or byte (field_in t.first)
    (width_or byte (field_in t.second) (width_or byte (field_in t.third) 0))

-- fields of these widths, which begin at one byte after another from this one on, lie between two bytes
abbrev pub widths_lie : ℕ → ℕ → ℕ → List ℕ → Bool
widths_lie from to at [] = nat_le from to
widths_lie from to at (zero ∷ more) = widths_lie from to (suc at) more
widths_lie from to at (suc w ∷ more) = nat_le from at && widths_lie (at + suc w) to (suc at) more

abbrev pub widths_of : Text → List ℕ
widths_of t = width_at t 0 ∷ width_at t 1 ∷ width_at t 2 ∷ []

-- the width at the byte of a field is that of the field
abbrev pub IsTold : Text → Option FieldSlot → Type 0
IsTold t o = option_map (λ f. slice_get (widths_of t) f.byte) o ≡ option_map (λ f. Some (width_of f.field)) o

pub record FieldsLie (i : Instr) : Type 0 where
  pub lie : widths_lie 0 (row_length i) 0 (widths_of (text_of i)) ≡ true
  pub first : IsTold (text_of i) (field_in (text_of i).first)
  pub second : IsTold (text_of i) (field_in (text_of i).second)
  pub third : IsTold (text_of i) (field_in (text_of i).third)
  pub bytes : length (take (code_of (encoded i)).len (code_of (encoded i)).bytes) ≡ row_length i

pub fields_lie : (i : Instr) → FieldsLie i
fields_lie Nop = record { lie = refl; first = refl; second = refl; third = refl; bytes = refl }
fields_lie i = record { lie = refl; first = refl; second = refl; third = refl; bytes = refl }

-- Content after content, and where its references lie.

later_twice : (m n : ℕ) (rs : List ReferenceAt) → map (later m) (map (later n) rs) ≡ map (later (m + n)) rs
later_twice m n [] = refl
later_twice m n (r ∷ rs) =
    let first : later m (later n r) ≡ later (m + n) r = λ i. (sym (add_assoc m n r.0) i, r.1) in
    λ i. first i ∷ later_twice m n rs i

-- three contents are followed in either order
pub followed_by_assoc : (a b c : EmittedContent) → followed_by (followed_by a b) c ≡ followed_by a (followed_by b c)
followed_by_assoc a b c =
    let at : ℕ = length a.bytes in
    let references : (a.references ++ map (later at) b.references)
    ++ map (later (length (a.bytes ++ b.bytes))) c.references
    ≡ a.references ++ map (later at) (b.references ++ map (later (length b.bytes)) c.references) =
    rw (
      length-append a.bytes b.bytes,
      ← later_twice at (length b.bytes) c.references,
      map-append (later at) b.references (map (later (length b.bytes)) c.references),
    ) (append_assoc a.references _ _) in
    λ i. record { bytes = append_assoc a.bytes b.bytes c.bytes i; references = references i }

lie_later : (n from to : ℕ) (rs : List ReferenceAt) → LieFrom from to rs
    → LieFrom (n + from) (n + to) (map (later n) rs)
lie_later n from to [] h = omega (arith, h)
lie_later n from to (r ∷ rs) h =
    let next : (n + (r.0 + field_len r.1.form)) ≡ (n + r.0) + field_len r.1.form = omega arith in (
      omega (arith, h.0),
      subst (λ (at : ℕ). LieFrom at (n + to) (map (later n) rs)) next
          (lie_later n (r.0 + field_len r.1.form) to rs h.1),
    )

pub lie_from_lower : (lower from to : ℕ) (rs : List ReferenceAt) → lower ≤ from → LieFrom from to rs
    → LieFrom lower to rs
lie_from_lower lower from to [] le h = omega (arith, le, h)
lie_from_lower lower from to (r ∷ rs) le h = (omega (arith, le, h.0), h.1)

lie_after : (from middle to : ℕ) (rs ss : List ReferenceAt) → LieFrom from middle rs → LieFrom middle to ss
    → LieFrom from to (rs ++ ss)
lie_after from middle to [] ss h g = lie_from_lower from middle to ss h g
lie_after from middle to (r ∷ rs) ss h g = (h.0, lie_after (r.0 + field_len r.1.form) middle to rs ss h.1 g)

-- content whose references lie in its bytes
abbrev pub Lies : EmittedContent → Type 0
Lies c = LieInside (length c.bytes) c.references

pub followed_lies : (a b : EmittedContent) → Lies a → Lies b → Lies (followed_by a b)
followed_lies a b h g =
    let at : ℕ = length a.bytes in
    let to : at + length b.bytes ≡ length (a.bytes ++ b.bytes) = sym (length-append a.bytes b.bytes) in
    let moved : LieFrom at (at + length b.bytes) (map (later at) b.references) =
    subst (λ (n : ℕ). LieFrom n (at + length b.bytes) (map (later at) b.references)) (omega arith)
    (lie_later at 0 (length b.bytes) b.references g.lie) in
    record {
      lie = subst (λ (n : ℕ). LieFrom 0 n (a.references ++ map (later at) b.references)) to
          (lie_after 0 at (at + length b.bytes) a.references _ h.lie moved);
    }

pub nothing_lies : Lies nothing
nothing_lies = record { lie = omega arith }

-- the contents of a list, each of whose references lie in its bytes
pub joined_lies : {X : Type 0} (f : X → EmittedContent) (xs : List X) → ((x : X) → Lies (f x))
    → Lies (joined (map f xs))
joined_lies f [] each = nothing_lies
joined_lies f (x ∷ xs) each = followed_lies (f x) (joined (map f xs)) (each x) (joined_lies f xs each)

-- The references of an instruction or of an item lie in its bytes.

-- the field of a reference has as many bytes as the field of its operand
pub same_width : (at : Field) (part : Part) → field_len (form_of at part) ≡ width_of at
same_width Data16 part = refl
same_width Addr16 part = refl
same_width Addr11 part = refl
same_width Rel part = refl
same_width at Whole = refl
same_width at High = refl
same_width at Low = refl
same_width at (Bit b) = refl

-- some of the fields that lie between two bytes lie there
placed_lie : (from to at : ℕ) (ws : List ℕ) (os : List (Option Reference)) → length os ≡ length ws
    → ((k : ℕ) (r : Reference) → slice_get os k ≡ Some (Some r) → slice_get ws k ≡ Some (field_len r.form))
    → widths_lie from to at ws ≡ true → LieFrom from to (placed_from at os)
placed_lie from to at [] [] len have h = leb-true from to h
placed_lie from to at (zero ∷ ws) (None ∷ os) len have h =
    placed_lie from to (suc at) ws os (omega (arith, len)) (λ k. have (suc k)) h
placed_lie from to at (zero ∷ ws) (Some r ∷ os) len have h =
    let none : zero ≡ field_len r.form = same_Some _ _ (have 0 r refl) in absurd (omega (arith, some_byte r.form, none))
placed_lie from to at (suc w ∷ ws) (None ∷ os) len have h =
    let parts = and_parts (nat_le from at) (widths_lie (at + suc w) to (suc at) ws) h in
    lie_from_lower from (at + suc w) to (placed_from (suc at) os) (omega (arith, leb-true from at parts.0))
    (placed_lie (at + suc w) to (suc at) ws os (omega (arith, len)) (λ k. have (suc k)) parts.1)
placed_lie from to at (suc w ∷ ws) (Some r ∷ os) len have h =
    let parts = and_parts (nat_le from at) (widths_lie (at + suc w) to (suc at) ws) h in (
      leb-true from at parts.0,
      subst (λ (n : ℕ). LieFrom (at + n) to (placed_from (suc at) os)) (same_Some _ _ (have 0 r refl))
          (placed_lie (at + suc w) to (suc at) ws os (omega (arith, len)) (λ k. have (suc k)) parts.1),
    )
placed_lie from to at [] (o ∷ os) len have h = absurd (omega (arith, len))
placed_lie from to at (w ∷ ws) [] len have h = absurd (omega (arith, len))

-- a reference of a value has the width of its field
of_value : (names : Meanings) (at : Field) (value : Valued Value) (r : Reference) → IsReferenceOf names at value r
    → field_len r.form ≡ width_of at
of_value names at (Ok v) r h = ap (λ (x : Reference). field_len x.form) h ∙ same_width at v.part
of_value names at (Err e) r h = absurd h

-- a reference that lies where the field of an operand begins has the width that the text has there
module _ (names : Meanings) (next : ℕ) (refs : References) (t : Text) (k : ℕ) (r : Reference)
    (lies : slice_get refs k ≡ Some (Some r)) where
  field_width : (f : FieldSlot) (e : Tree) → GivesField names next refs f e → IsTold t (Some f)
      → byte_of (Some f) ≡ Some k → slice_get (widths_of t) k ≡ Some (field_len r.form)
  field_width f e gives told begins =
      let byte : f.byte ≡ k = same_Some f.byte k begins in
      let held : gives.held.reference ≡ Some r = same_Some _ _ (sym gives.lies ∙ (ap (slice_get refs) byte ∙ lies)) in
      let kind = subst (λ o. IfSome o (IsReferenceOf names f.field (value_of names e))) held gives.kind in
      sym (ap (slice_get (widths_of t)) byte) ∙ (same_Some _ _ told
      ∙ ap Some (sym (of_value names f.field (value_of names e) r kind)))

  slot_width : (o : Option OperandTree) (s : Slot) → Fills names next refs o s → IsTold t (field_in s)
      → byte_of (field_in s) ≡ Some k → slice_get (widths_of t) k ≡ Some (field_len r.form)
  slot_width (Some (item.Imm e)) (Imm f) fills told begins = field_width f e fills told begins
  slot_width (Some (item.Plain e)) (Plain f) fills told begins = field_width f e fills told begins
  slot_width (Some (item.NotBit e)) (NotBit f) fills told begins = field_width f e fills told begins
  slot_width o (Imm f) fills told begins = absurd fills
  slot_width o (Plain f) fills told begins = absurd fills
  slot_width o (NotBit f) fills told begins = absurd fills
  slot_width o s fills told begins = absurd (cc begins)

-- each reference of an instruction has the width of the field that begins at its byte
width_there : (names : Meanings) (l : Line) (c : Coded) (s : StandsFor names l c) (k : ℕ) (r : Reference)
    → slice_get c.references k ≡ Some (Some r) → slice_get (widths_of (text_of s.instr)) k ≡ Some (field_len r.form)
width_there names l c s k r lies =
    let t : Text = text_of s.instr in
    let rows : FieldsLie s.instr = fields_lie s.instr in
    let width = slot_width names (address_after names (row_length s.instr)) c.references t k r lies in
    elim (s.only k r lies) [
      | inl first ↦ width l.first t.first s.text.first rows.first first
      | inr more ↦ elim more [
        | inl second ↦ width l.second t.second s.text.second rows.second second
        | inr third ↦ width l.third t.third s.text.third rows.third third
      ]
    ]

-- what an instruction gives has the bytes of its row
pub stood_length : (names : Meanings) (l : Line) (c : Coded) (s : StandsFor names l c)
    → length (take c.code.len c.code.bytes) ≡ row_length s.instr
stood_length names l c s = ap (λ x. length (take x.len x.bytes)) s.code ∙ (fields_lie s.instr).bytes

pub stood_lies : (names : Meanings) (l : Line) (c : Coded) → StandsFor names l c → length c.references ≡ 3
    → Lies (coded_content (Ok c))
stood_lies names l c s three =
    record {
      lie = subst (λ (n : ℕ). LieFrom 0 n (placed_from 0 c.references)) (sym (stood_length names l c s))
          (placed_lie 0 (row_length s.instr) 0 (widths_of (text_of s.instr)) c.references three
          (width_there names l c s) (fields_lie s.instr).lie);
    }

-- A line without a fault gives as many bytes as its size, and the faults of content are six.

-- where none of a part and the next has a fault
neither : (one next : Option ℕ) → or_next one next ≡ None → (one ≡ None) × (next ≡ None)
neither None next h = (refl, h)
neither (Some n) next h = absurd (cc h)

-- where no part counts as a fault none has one
faultless : (made : ℕ) (parts : List OperandOutcome) → leftmost_fault made parts ≡ None → first_faulty parts ≡ None
faultless made [] h = refl
faultless made (Faulty number ∷ parts) h = absurd (cc h)
faultless made (Fixes ∷ parts) h = faultless (made_with made Fixes) parts (neither (part_fault made Fixes) _ h).1
faultless made (Stands ∷ parts) h = faultless made parts h

pub instructions_are_coded : InstructionsAreCoded
instructions_are_coded names jump mnemonic operands made may h =
    subst (λ o. IsFaultOrCoded o (coded names mnemonic operands jump))
    (faultless made (outcomes names mnemonic operands jump) h.is) (outcomes_tell names mnemonic operands may jump)

stands : (names : Meanings) (mnemonic : List ℕ) (operands : List OperandTree) (jump : Jump)
    (has : HasRow mnemonic operands jump) → IfOk (coded names mnemonic operands jump) (StandsFor names has.line)
unfolding coded
stands names mnemonic operands jump has =
    subst (λ (l : Option Line). IfOk (coded_line names l) (StandsFor names has.line)) (sym has.is)
    (coded_stands_for_line names has.line)

row_filled : (names : Meanings) (l : Line) (len : ℕ) (answer : Answer Coded) → IsOk answer
    → IfOk answer (StandsFor names l) → IfOk answer (λ c. c.code.len ≡ len) → length (coded_content answer).bytes ≡ len
row_filled names l len (Ok c) ok s same = stood_length names l c s ∙ (sym (ap (λ x. x.len) s.code) ∙ same)
row_filled names l len (Err e) ok s same = absurd (cc ok)

pub instructions_fill : InstructionsFill
instructions_fill names jump mnemonic operands made may h =
    let has = forms_have_rows mnemonic operands may jump in
    row_filled names has.line (row_length has.row) (coded names mnemonic operands jump)
    (instructions_are_coded names jump mnemonic operands made may h)
    (stands names mnemonic operands jump has) (has.same names)
    ∙ sym (ap (λ (o : Option ℕ). unwrap_or o 0) has.length)

-- how many bytes an item gives: those of its width, or of its text
abbrev item_len : Width → ItemTree → ℕ
item_len Byte (item.Value e) = 1
item_len Word (item.Value e) = 2
item_len width (item.Text characters) = length characters

abbrev items_len : Width → List ItemTree → ℕ
items_len width [] = 0
items_len width (x ∷ xs) = item_len width x + items_len width xs

field_len_is : (width : Width) (e : Tree) (held : FieldValue)
    → length (field_bytes width held) ≡ item_len width (item.Value e)
field_len_is Byte e (Number n) = refl
field_len_is Byte e (Linked r) = refl
field_len_is Word e (Number n) = refl
field_len_is Word e (Linked r) = refl

value_fills : (width : Width) (made : ℕ) (e : Tree) (answer : Answer FieldValue)
    → part_fault made (item_outcome (and_then answer (λ held. Ok (Some held)))) ≡ None
    → length (item_given width (item.Value e) (and_then answer (λ held. Ok (Some held)))).bytes
    ≡ item_len width (item.Value e)
value_fills width made e (Ok held) h = field_len_is width e held
value_fills width made e (Err fault) h = absurd (cc h)

item_fills : (names : Meanings) (width : Width) (made : ℕ) (x : ItemTree)
    → part_fault made (item_outcome (item_field names width x)) ≡ None
    → length (item_content names width x).bytes ≡ item_len width x
item_fills names width made (item.Value e) h =
    value_fills width made e (fielded names 0 (field_of_width width) (value_of names e)) h
item_fills names Byte made (item.Text characters) h = refl
item_fills names Word made (item.Text characters) h = refl

items_fill : (names : Meanings) (width : Width) (made : ℕ) (xs : List ItemTree)
    → leftmost_fault made (map (λ x. item_outcome (item_field names width x)) xs) ≡ None
    → length (joined (map (item_content names width) xs)).bytes ≡ items_len width xs
items_fill names width made [] h = refl
items_fill names width made (x ∷ xs) h =
    let parts = neither (part_fault made (item_outcome (item_field names width x))) _ h in
    omega (
      arith,
      length-append (item_content names width x).bytes (joined (map (item_content names width) xs)).bytes,
      item_fills names width made x parts.0,
      items_fill names width (made_with made (item_outcome (item_field names width x))) xs parts.1,
    )

bytes_len : (xs : List ItemTree) → items_len Byte xs ≡ items_size xs
bytes_len [] = refl
bytes_len (item.Value e ∷ xs) = omega (arith, bytes_len xs)
bytes_len (item.Text characters ∷ xs) = omega (arith, bytes_len xs)

words_len : (xs : List ItemTree) → AreValues xs → items_len Word xs ≡ 2 * length xs
words_len [] h = refl
words_len (item.Value e ∷ xs) h = omega (arith, words_len xs h)
words_len (item.Text characters ∷ xs) h = absurd h

pub bytes_fill : BytesFill
bytes_fill names jump items made h = items_fill names Byte made items h.is ∙ bytes_len items

pub words_fill : WordsFill
words_fill names jump words made values h = items_fill names Word made words h.is ∙ words_len words values

-- The faults of content are E7 to E10, E14 and E19.

-- a part whose own fault, if it has one, is that of an operand
abbrev FailsAsPart : OperandOutcome → Type 0
FailsAsPart (Faulty number) = IsFaultOfContent number
FailsAsPart part = Unit {0}

too_many : (b : Bool) → IfSome (cond b None (Some TOO_MANY)) IsFaultOfContent
too_many true = tt
too_many false = inr (inr refl)

part_fails : (made : ℕ) (part : OperandOutcome) → FailsAsPart part → IfSome (part_fault made part) IsFaultOfContent
part_fails made (Faulty number) h = h
part_fails made Fixes h = too_many (nat_lt made MOST_FIXUPS)
part_fails made Stands h = tt

or_next_fails : (one next : Option ℕ) → IfSome one IsFaultOfContent → IfSome next IsFaultOfContent
    → IfSome (or_next one next) IsFaultOfContent
or_next_fails (Some number) next h g = h
or_next_fails None next h g = g

parts_fail : (made : ℕ) (parts : List OperandOutcome) → AllByRecursion FailsAsPart parts
    → IfSome (leftmost_fault made parts) IsFaultOfContent
parts_fail made [] h = tt
parts_fail made (part ∷ parts) h =
    or_next_fails (part_fault made part) _ (part_fails made part h.0) (parts_fail (made_with made part) parts h.1)

fault_fails : (number : ℕ) → IsFaultOfValue number ⊎ (number ≡ OUT_OF_RANGE) → IsFaultOfContent number
fault_fails number (inl h) = inl h
fault_fails number (inr h) = inr (inl h)

operand_fails : (names : Meanings) (next : ℕ) (field : Option FieldSlot) (o : Option OperandTree)
    → FailsAsPart (operand_outcome (filled names next field o))
operand_fails names next field o =
    elim (filled names next field o) as (λ x. FailsAsOperand x → FailsAsPart (operand_outcome x)) [
      | Ok held ↦ λ h. elim held.reference as (λ o. FailsAsPart (linked o)) [ Some r ↦ tt | None ↦ tt ]
      | Err e ↦ λ h. fault_fails e.number h
    ] (filled_fails names next field o)

row_fails : (names : Meanings) (l : Line) (row : Option Instr) → AllByRecursion FailsAsPart (row_outcomes names l row)
row_fails names l (Some row) =
    let next : ℕ = address_after names (row_length row) in (
      operand_fails names next (field_in (text_of row).first) l.first,
      (
        operand_fails names next (field_in (text_of row).second) l.second,
        (operand_fails names next (field_in (text_of row).third) l.third, tt),
      ),
    )
row_fails names l None = (tt, (tt, (tt, tt)))

line_fails : (names : Meanings) (l : Option Line) → AllByRecursion FailsAsPart (outcomes_line names l)
line_fails names (Some l) = row_fails names l (line_row l)
line_fails names None = (tt, (tt, (tt, tt)))

field_fails : (answer : Answer FieldValue) → FailsAsOperand answer
    → FailsAsPart (item_outcome (and_then answer (λ held. Ok (Some held))))
field_fails (Ok (Number n)) h = tt
field_fails (Ok (Linked r)) h = tt
field_fails (Err e) h = fault_fails e.number h

item_fails : (names : Meanings) (width : Width) (x : ItemTree) → FailsAsPart (item_outcome (item_field names width x))
item_fails names width (item.Value e) =
    field_fails (fielded names 0 (field_of_width width) (value_of names e))
    (fielded_fails names 0 (field_of_width width) (value_of names e) (values_fail_by_four names e))
item_fails names width (item.Text characters) = tt

items_fail : (names : Meanings) (width : Width) (xs : List ItemTree)
    → AllByRecursion FailsAsPart (map (λ x. item_outcome (item_field names width x)) xs)
items_fail names width [] = tt
items_fail names width (x ∷ xs) = (item_fails names width x, items_fail names width xs)

pub content_fails_by_six : ContentFailsBySix
unfolding outcomes
content_fails_by_six names jump (Code mnemonic operands) made =
    parts_fail made _ (line_fails names (instruction_line mnemonic operands jump))
content_fails_by_six names jump (Db items) made = parts_fail made _ (items_fail names Byte items)
content_fails_by_six names jump (Dw words) made = parts_fail made _ (items_fail names Word words)
content_fails_by_six names jump body made = tt

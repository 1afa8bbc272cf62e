-- The fields of a row of the instruction table end in its bytes, and none lies over another; so the references of
-- content lie in its bytes, one after another, and each is what a value leaves to the linker.
use Rattle.m51_asm.proofs
use Rattle.m51_asm.specs
use proofs.Common.{nat_le, ◌≡◌, ◌⊎◌, inl, inr, ℕ, ◌+◌, ◌<◌, ◌≤◌, Bool, true, ◌&&◌, ◌||◌, List, [], ◌∷◌, Option, Some}
use proofs.Common.{same_Some, sym, ◌∙◌, None, refl, ap, arith, Field, suc, length, Ok, Err, Part, Value, Tree, Meanings}
use proofs.Common.{Number, Linked, Reference, list_all, value_of, add-zero, ltb-true, false, map, length-append, subst}
use proofs.Common.{length-map, Each, ◌*◌, IsItem, take, length-take, Jump, zero, not, same_kind, BodyTree, LineTree}
use proofs.Common.{TextSegment, Assignment, body_at, is_misplaced, unwrap_or, above}
use Rattle.m51_isa.specs.declared.instr.Instr.{Instr}
use Rattle.m51_isa.specs.Table.{length_of as row_length, encoded, padded}
use Rattle.m51_module.specs.Validity.{field_len}
use Rattle.m51_expr.specs.Value.{Valued}
use Rattle.m51_encode.specs.declared.reference.FieldValue.{FieldValue}
use Rattle.m51_encode.specs.Filling.{Answer, and_then, or_out_of_range, held_at, nothing as nothing_held, valued}
use Rattle.m51_encode.specs.Filling.{expression, filled_by, filled, beginning_at, reference_at, references_of, fielded}
use Rattle.m51_encode.proofs.BitNumbers.{linked_is}
use specs.Content.{ReferenceAt, EmittedContent, placed_from, nothing, item_outcome, item_given, item_content, later}
use specs.Content.{followed_by, joined, coded_content, outcomes_by, content_by}
use Rattle.m51_isa.specs.declared.slot.FieldSlot.{FieldSlot}
use Rattle.m51_isa.specs.Spelling.{field_in, text_of}
use Rattle.m51_cells.proofs.Members.{In, Pairs, every_of, in_map, pairs_append, pairs_map}
use proofs.Members.{pairs_within, in_both}
use Rattle.std.specs.Option.{option_or}
use Rattle.m51_expr.specs.Operand.{OperandTree, ItemTree, Value as ValueItem, Text}
use Rattle.m51_encode.specs.Reference.{form_of}
use Rattle.m51_encode.specs.FieldValues.{field_of}
use Rattle.m51_encode.specs.declared.outcome.OperandOutcome.{OperandOutcome}
use Rattle.m51_encode.specs.declared.outcome.OperandOutcome.TheVariants.{Faulty, Fixes, Stands}
use specs.Outcomes.{made_with_all, leftmost_fault}
use Rattle.m51_encode.specs.declared.item.Width.{Width}
use Rattle.m51_encode.specs.declared.item.Width.TheVariants.{Byte, Word}
use Rattle.m51_encode.specs.Items.{item_field, field_of_width}
use Rattle.m51_emit.specs.Sizes.{items_size}
use specs.Fitting.{size_by, size_at}
use Rattle.m51_isa.specs.Filling.{with_numbers}
use Rattle.m51_isa.proofs.Codes.{rows_are_short}
use Rattle.m51_isa.proofs.RowsFilled.{texts_are_rows}
use Rattle.m51_encode.specs.JumpForm.{address_after}
use Rattle.m51_encode.specs.Outcomes.{linked}
use Rattle.m51_encode.specs.Coding.{gathered, first_of, second_of, third_of, three_outcomes, coded, outcomes, length_of}
use Rattle.m51_encode.specs.Lengths.{HasRow}
use Rattle.m51_encode.proofs.FormRows.{forms_have_rows}
use specs.ObjectSegments.{final}
use specs.ContentFaults.{line_outcomes_by, line_outcomes, made_before, content_fault}
use specs.Pieces.{content_at}
use proofs.GoodLines.{IsGood, IsFreeText, IsClean, free}
use Rattle.m51_isa.specs.declared.slot.Field.TheVariants as field
use Rattle.m51_cells.specs.declared.kind.Kind.TheVariants as kind
use Rattle.m51_stmt.specs.Statement as body

-- how many bytes a field has
abbrev pub width : Field → ℕ
width field.Data16 = 2
width field.Addr16 = 2
width field.Addr11 = 2
width at = 1

abbrev pub end_of : FieldSlot → ℕ
end_of f = f.byte + width f.field

-- fields of a row end in its bytes, and none lies over another
abbrev ends_in : ℕ → Option FieldSlot → Bool
ends_in len None = true
ends_in len (Some f) = nat_le (end_of f) len

abbrev apart : Option FieldSlot → Option FieldSlot → Bool
apart (Some f) (Some g) = nat_le (end_of f) g.byte || nat_le (end_of g) f.byte
apart f g = true

abbrev fields_lie : ℕ → List (Option FieldSlot) → Bool
fields_lie len [] = true
fields_lie len (f ∷ fs) = ends_in len f && (list_all (apart f) fs && fields_lie len fs)

abbrev pub fields_of : Instr → List (Option FieldSlot)
fields_of i = field_in (text_of i).first ∷ field_in (text_of i).second ∷ field_in (text_of i).third ∷ []

-- what the test of fields says
pub record DoLie (len : ℕ) (fs : List (Option FieldSlot)) : Type 0 where
  pub ends : (s : FieldSlot) → In (Some s) fs → end_of s ≤ len
  pub orders : (s t : FieldSlot) → In (Some s) fs → In (Some t) fs → s.byte < t.byte → end_of s ≤ t.byte

-- the fields of a row
pub rows_do_lie : (i : Instr) → DoLie (row_length i) (fields_of i)
rows_do_lie i = grind arith

-- the type of a value, also one that its crate keeps to itself
abbrev pub type_of : {A : Type 0} → A → Type 0
type_of {A} x = A

-- what an operand gives in its field
abbrev pub Held : Type 0
Held = type_of nothing_held

-- the form of a reference is as long as its field
pub form_width : (at : Field) (part : Part) → field_len (form_of at part) ≡ width at
form_width at part = grind arith

-- a reference that a value gives in a field
pub record IsLinkedBy (names : Meanings) (r : Reference) : Type 0 where
  pub tree : Tree
  pub value : Value
  pub is : value_of names tree ≡ Ok value
  pub at : Field
  pub next : ℕ
  pub from : field_of names at next value ≡ Some (Linked r)

-- where a reference that begins at a byte ends
abbrev pub end_of_field : ReferenceAt → ℕ
end_of_field r = r.0 + field_len r.1.form

abbrev pub FieldAfter : ReferenceAt → ReferenceAt → Type 0
FieldAfter r q = end_of_field r ≤ q.0

-- the references of content lie in its bytes, one after another
pub record IsContent (names : Meanings) (c : EmittedContent) : Type 0 where
  pub inside : (r : ReferenceAt) → In r c.references → end_of_field r ≤ length c.bytes
  pub order : Pairs FieldAfter c.references
  pub linked : (r : ReferenceAt) → In r c.references → IsLinkedBy names r.1

-- what holds of each of these references at its byte
abbrev EachAt : (ℕ → Reference → Type 0) → ℕ → List (Option Reference) → Type 0
EachAt P n [] = Unit {0}
EachAt P n (o ∷ os) = ((r : Reference) → o ≡ Some r → P n r) × EachAt P (suc n) os

record ArePlaced (P : ℕ → Reference → Type 0) (n : ℕ) (ps : List ReferenceAt) : Type 0 where
  from : (p : ReferenceAt) → In p ps → n ≤ p.0
  each : (p : ReferenceAt) → In p ps → P p.0 p.1
  order : Pairs (λ p q. p.0 < q.0) ps

placed : (P : ℕ → Reference → Type 0) (n : ℕ) (os : List (Option Reference)) → EachAt P n os
    → ArePlaced P n (placed_from n os)
placed P n [] h = record { from = λ p i. absurd i; each = λ p i. absurd i; order = tt }
placed P n (None ∷ os) h =
    let m = placed P (suc n) os h.1 in
    record { from = λ p i. let f = m.from p i in omega arith; each = m.each; order = m.order }
placed P n (Some q ∷ os) h =
    let m = placed P (suc n) os h.1 in
    record {
      from = λ p i. elim i [ inl e ↦ rw (← e) (omega arith) | inr j ↦ let f = m.from p j in omega arith ];
      each = λ p i. elim i [ inl e ↦ rw (← e) (h.0 q refl) | inr j ↦ m.each p j ];
      order = (every_of (λ p. n < p.0) (placed_from (suc n) os) (λ p i. let f = m.from p i in omega arith), m.order);
    }

or_some : (x y : Option Reference) (r : Reference) → option_or x y ≡ Some r → (x ≡ Some r) ⊎ (y ≡ Some r)
or_some x y r h = grind arith

module _ (names : Meanings) (row : Instr) (next : ℕ) where
  -- a reference at a byte of a row
  record IsAtByte (k : ℕ) (r : Reference) : Type 0 where
    slot : FieldSlot
    there : In (Some slot) (fields_of row)
    byte_is : slot.byte ≡ k
    form_is : field_len r.form ≡ width slot.field
    by : IsLinkedBy names r

  -- what is held has a reference only of a field of the row
  abbrev Links : Answer Held → Type 0
  Links (Ok x) = (r : Reference) → x.reference ≡ Some r → IsAtByte x.byte r
  Links (Err e) = Unit {0}

  module _ (slot : FieldSlot) (there : In (Some slot) (fields_of row)) where
    by_field : (e : Tree) (v : Value) → value_of names e ≡ Ok v → (o : Option FieldValue)
        → field_of names slot.field next v ≡ o
        → Links (and_then (or_out_of_range o) (λ held. Ok (held_at slot.byte held)))
    by_field e v is (Some (Number n)) from = grind arith
    by_field e v is None from = tt
    by_field e v is (Some (Linked q)) from = λ r same. rw (← same_Some q r same) (record {
      slot = slot;
      there = there;
      byte_is = refl;
      form_is = ap (λ (x : Reference). field_len x.form) (sym (linked_is names slot.field next v q from))
          ∙ form_width slot.field v.part;
      by = record { tree = e; value = v; is = is; at = slot.field; next = next; from = from };
    })

    by_value : (e : Tree) (w : Valued Value) → value_of names e ≡ w → Links (valued names next slot.field slot.byte w)
    by_value e (Ok v) is = by_field e v is _ refl
    by_value e (Err k) is = tt

    by_tree : (t : Option Tree) → Links (filled_by names next slot t)
    by_tree (Some e) = by_value e _ refl
    by_tree None = grind arith

  linking : (slot : Option FieldSlot) (o : Option OperandTree) → In slot (fields_of row)
      → Links (filled names next slot o)
  linking (Some slot) (Some operand) there = by_tree slot there (expression operand)
  linking b o there = grind arith

  begins : (k : ℕ) (r : Reference) (x : Held) → Links (Ok x) → beginning_at k x ≡ Some r → IsAtByte k r
  begins k r x links e = grind arith

  -- what three operands of the row gave
  module _ (oa ob oc : Option OperandTree) (a b c : Held)
      (is_a : filled names next (field_in (text_of row).first) oa ≡ Ok a)
      (is_b : filled names next (field_in (text_of row).second) ob ≡ Ok b)
      (is_c : filled names next (field_in (text_of row).third) oc ≡ Ok c) where
    at_byte : (k : ℕ) (r : Reference) → reference_at k a b c ≡ Some r → IsAtByte k r
    at_byte k r h = elim (or_some _ _ _ h) [
      | inl e ↦ begins k r a (subst Links is_a (linking _ oa (inl refl))) e
      | inr more ↦ elim (or_some _ _ _ more) [
        | inl e ↦ begins k r b (subst Links is_b (linking _ ob (inr (inl refl)))) e
        | inr e ↦ begins k r c (subst Links is_c (linking _ oc (inr (inr (inl refl))))) e
      ]
    ]

    pub row_content : (bytes : List ℕ) → length bytes ≡ row_length row
        → IsContent names (record { bytes = bytes; references = placed_from 0 (references_of a b c) })
    row_content bytes len =
        let lie = rows_do_lie row in
        let all = placed IsAtByte 0 (references_of a b c) (at_byte 0, (at_byte 1, (at_byte 2, tt))) in
        record {
          inside = λ p i. let l = all.each p i in let end = lie.ends l.slot l.there in omega arith;
          order = pairs_within _ _ _ (λ p q i j less.
              let l = all.each p i in
              let m = all.each q j in
              let end = lie.orders l.slot m.slot l.there m.there (omega arith) in
              omega arith) all.order;
          linked = λ p i. (all.each p i).by;
        }

-- DB and DW without a fault give the bytes of their items, and no more references than fixups are counted: where no
-- part of a line has a fault, the fixups of all are made, never more than 65,535.

-- 1 for a fixup
abbrev pub one_fixup : OperandOutcome → ℕ
one_fixup Fixes = 1
one_fixup other = 0

-- the number of fixups of parts
abbrev pub fixes : List OperandOutcome → ℕ
fixes [] = 0
fixes (part ∷ parts) = one_fixup part + fixes parts

-- no part has a fault
abbrev pub AreFine : List OperandOutcome → Type 0
AreFine [] = Unit {0}
AreFine (Faulty n ∷ parts) = ⊥
AreFine (part ∷ parts) = AreFine parts

-- what is made with parts of which none has a fault
pub record AreMade (made : ℕ) (parts : List OperandOutcome) : Type 0 where
  pub fine : AreFine parts
  pub made_is : made_with_all made parts ≡ made + fixes parts
  pub most : made ≤ 65535 → made_with_all made parts ≤ 65535

pub made : (m : ℕ) (parts : List OperandOutcome) → leftmost_fault m parts ≡ None → AreMade m parts
made m [] h = record { fine = tt; made_is = sym (add-zero m); most = λ most. most }
made m (Faulty n ∷ parts) h = absurd (cc h)
made m (Stands ∷ parts) h = grind (arith, made m parts h)
made m (Fixes ∷ parts) h = grind (arith, ltb-true, made (suc m) parts)

-- what a line gives, over what is counted for it
pub record IsGiven (names : Meanings) (size : ℕ) (parts : List OperandOutcome) (c : EmittedContent) : Type 0 where
  pub content : IsContent names c
  pub size_is : length c.bytes ≡ size
  pub few : length c.references ≤ fixes parts

-- content without references
pub no_refs : (names : Meanings) (bytes : List ℕ) → IsContent names (record { bytes = bytes; references = [] })
no_refs names bytes = record { inside = λ r i. absurd i; order = tt; linked = λ r i. absurd i }

-- a line that gives no bytes
pub nothing_given : (names : Meanings) (parts : List OperandOutcome) → IsGiven names 0 parts nothing
nothing_given names parts = record { content = no_refs names []; size_is = refl; few = omega arith }

-- how many bytes a number of DB or DW has
abbrev wide : Width → ℕ
wide w = width (field_of_width w)

module _ (names : Meanings) (w : Width) where
  -- an item with this value gives its bytes, unless it has a fault
  abbrev GivesNumber : Tree → Answer FieldValue → Type 0
  GivesNumber e r = AreFine (item_outcome (and_then r (λ held. Ok (Some held))) ∷ [])
      → IsGiven names (wide w) (item_outcome (and_then r (λ held. Ok (Some held))) ∷ [])
      (item_given w (ValueItem e) (and_then r (λ held. Ok (Some held))))

  field_given : (t : Tree) (v : Value) → value_of names t ≡ Ok v → (o : Option FieldValue)
      → field_of names (field_of_width w) 0 v ≡ o → GivesNumber t (or_out_of_range o)
  field_given t v is b from = grind (arith, no_refs, linked_is, form_width, end_of_field)

  value_given : (e : Tree) (v : Valued Value) → value_of names e ≡ v
      → GivesNumber e (fielded names 0 (field_of_width w) v)
  value_given e b is = grind (arith, field_given)

-- how many bytes an item has, a text in DB only
abbrev item_wide : Width → ItemTree → ℕ
item_wide w (ValueItem e) = wide w
item_wide w (Text characters) = length characters

one_given : (names : Meanings) (w : Width) (i : ItemTree) → AreFine (item_outcome (item_field names w i) ∷ [])
    → IsGiven names (item_wide w i) (item_outcome (item_field names w i) ∷ []) (item_content names w i)
one_given names w (ValueItem e) fine = value_given names w e (value_of names e) refl fine
one_given names w (Text characters) fine =
    record { content = no_refs names characters; size_is = refl; few = omega arith }

-- content after other content
join : {names : Meanings} {m n : ℕ} {o : OperandOutcome} {ps : List OperandOutcome} {c d : EmittedContent}
    → IsGiven names m (o ∷ []) c → IsGiven names n ps d → IsGiven names (m + n) (o ∷ ps) (followed_by c d)
join {names} {m} {n} {o} {ps} {c} {d} g h =
    let k = length c.bytes in
    let moved = map (later k) d.references in
    let len = length-append c.bytes d.bytes in
    let refs = length-append c.references moved in
    let same = length-map d.references (later k) in
    record {
      content = record {
        inside = in_both _ _ _ (λ r i. let e = g.content.inside r i in omega arith) (λ r i.
            let f = in_map _ _ _ i in
            let e = h.content.inside f.0 f.1 in rw (← f.2) (omega arith));
        order = pairs_append _ _ _ g.content.order (pairs_map _ _ _ (pairs_within _ _ _
            (λ r q i j e. omega arith) h.content.order))
            (λ r q i j.
            let f = in_map _ _ _ j in
            let e = g.content.inside r i in rw (← f.2) (omega arith));
        linked = in_both _ _ _ g.content.linked (λ r i.
            let f = in_map _ _ _ i in rw (← f.2) (h.content.linked f.0 f.1));
      };
      size_is = omega arith;
      few = omega arith;
    }

-- the bytes of items
abbrev all_wide : Width → List ItemTree → ℕ
all_wide w [] = 0
all_wide w (i ∷ items) = item_wide w i + all_wide w items

fine_parts : (o : OperandOutcome) (ps : List OperandOutcome) → AreFine (o ∷ ps) → AreFine (o ∷ []) × AreFine ps
fine_parts o ps h = grind arith

abbrev pub parts_of : Meanings → Width → List ItemTree → List OperandOutcome
parts_of names w items = map (λ item. item_outcome (item_field names w item)) items

abbrev pub content_of : Meanings → Width → List ItemTree → EmittedContent
content_of names w items = joined (map (item_content names w) items)

items_given : (names : Meanings) (w : Width) (items : List ItemTree) → AreFine (parts_of names w items)
    → IsGiven names (all_wide w items) (parts_of names w items) (content_of names w items)
items_given names w [] fine = record { content = no_refs names []; size_is = refl; few = omega arith }
items_given names w (i ∷ items) fine =
    let p = fine_parts _ _ fine in
    join (one_given names w i p.0) (items_given names w items p.1)

bytes_wide : (items : List ItemTree) → all_wide Byte items ≡ items_size items
bytes_wide [] = refl
bytes_wide b = grind arith

words_wide : (items : List ItemTree) → Each (IsItem false) items → all_wide Word items ≡ 2 * length items
words_wide [] h = refl
words_wide (i ∷ items) h = grind (arith, words_wide items)

pub bytes_given : (names : Meanings) (items : List ItemTree) → AreFine (parts_of names Byte items)
    → IsGiven names (items_size items) (parts_of names Byte items) (content_of names Byte items)
bytes_given names items fine = rw (← bytes_wide items) (items_given names Byte items fine)

pub words_given : (names : Meanings) (items : List ItemTree) → Each (IsItem false) items
    → AreFine (parts_of names Word items)
    → IsGiven names (2 * length items) (parts_of names Word items) (content_of names Word items)
words_given names items good fine = grind (arith, words_wide, items_given)

-- What a line without a fault gives: no more bytes than it takes, in CODE, and no more references than fixups are
-- counted; of a text without faults at most 65,535.

abbrev one_ref : Option Reference → ℕ
one_ref None = 0
one_ref (Some r) = 1

one_or : (x y : Option Reference) → one_ref (option_or x y) ≤ one_ref x + one_ref y
one_or x y = grind arith

one_linked : (o : Option Reference) → one_fixup (linked o) ≡ one_ref o
one_linked o = grind arith

abbrev refs_in : List (Option Reference) → ℕ
refs_in [] = 0
refs_in (o ∷ os) = one_ref o + refs_in os

refs_len : (os : List (Option Reference)) (n : ℕ) → length (placed_from n os) ≡ refs_in os
refs_len [] n = refl
refs_len (o ∷ os) n = grind (arith, refs_len os (suc n))

begins_once : (x : Held)
    → one_ref (beginning_at 0 x) + (one_ref (beginning_at 1 x) + one_ref (beginning_at 2 x)) ≤ one_ref x.reference
begins_once x = grind arith

at_most : (k : ℕ) (a b c : Held) → one_ref (reference_at k a b c) ≤ one_ref
    (beginning_at k a) + (one_ref (beginning_at k b) + one_ref (beginning_at k c))
at_most k a b c = omega (arith, one_or)

few_references : (a b c : Held) → length (placed_from 0 (references_of a b c)) ≤ fixes
    (linked a.reference ∷ linked b.reference ∷ linked c.reference ∷ [])
few_references a b c = omega (arith, refs_len (references_of a b c) 0, at_most, begins_once, one_linked)

front_len : (bytes : List ℕ) → length bytes ≤ 3 → length (take (length bytes) (padded bytes)) ≡ length bytes
front_len bytes short = grind (arith, length-take, length-append)

-- an instruction of a row
module _ (names : Meanings) (row : Instr) (oa ob oc : Option OperandTree) where
  three_given : (x y z : Answer Held) → first_of names row oa ≡ x → second_of names row ob ≡ y
      → third_of names row oc ≡ z → AreFine (three_outcomes x y z)
      → IsGiven names (row_length row) (three_outcomes x y z) (coded_content (gathered row x y z))
  three_given (Ok a) (Ok b) (Ok c) is_x is_y is_z fine =
      let bytes = encoded (with_numbers row a.number b.number c.number) in
      let len = front_len bytes (rows_are_short (with_numbers row a.number b.number c.number)).three
      ∙ (texts_are_rows.filled row a.number b.number c.number).length in
      record {
        content = row_content names row (address_after names (row_length row)) oa ob oc a b c is_x is_y is_z
            (take (length bytes) (padded bytes)) len;
        size_is = len;
        few = few_references a b c;
      }
  three_given x y z is_x is_y is_z fine = absurd (grind arith)

pub code_given : (names : Meanings) (mnemonic : List ℕ) (operands : List OperandTree) (form : Jump)
    → HasRow mnemonic operands form → AreFine (outcomes names mnemonic operands form)
    → IsGiven names (unwrap_or (length_of mnemonic operands form) 0) (outcomes names mnemonic operands form)
    (coded_content (coded names mnemonic operands form))
code_given names mnemonic operands form has fine = grind (arith, three_given)

-- what a line gives, by what it says
record IsGivenBy (names : Meanings) (size : ℕ) (parts : List OperandOutcome) (segment : TextSegment)
    (c : EmittedContent) : Type 0 where
  content : IsContent names c
  within : length c.bytes ≤ size
  few : length c.references ≤ fixes parts
  code : (length c.bytes ≡ 0) ⊎ (segment.kind ≡ kind.Code)

in_code : (s : TextSegment) → not (same_kind s.kind kind.Code) ≡ false → s.kind ≡ kind.Code
in_code s h = grind arith

module _ (names counts : Meanings) (form : Jump) (s : TextSegment) where
  exactly : (size : ℕ) (parts : List OperandOutcome) (c : EmittedContent) → IsGiven names size parts c
      → not (same_kind s.kind kind.Code) ≡ false → IsGivenBy names size parts s c
  exactly size parts c g stands =
      record { content = g.content; within = omega (arith, g.size_is); few = g.few; code = inr (in_code s stands) }

  given_by : (b : BodyTree) → IsGood b → is_misplaced s b ≡ false → AreFine (outcomes_by names form b)
      → IsGivenBy names (size_by counts form b) (outcomes_by names form b) s (content_by names form b)
  given_by (body.Code mnemonic operands) good stands fine = grind (arith, code_given, forms_have_rows)
  given_by (body.Db items) good stands fine = exactly _ _ _ (bytes_given names items fine) stands
  given_by (body.Dw items) good stands fine = exactly _ _ _ (words_given names items good fine) stands
  given_by b good stands fine = grind arith

line_given : (lines : List LineTree) (a : Assignment) (k : ℕ) (counts : Meanings) (s : TextSegment) (b : BodyTree)
    → IsGood b → is_misplaced s b ≡ false → AreFine (line_outcomes_by lines a k b)
    → IsGivenBy (final lines a k) (size_by counts (a.form k) b) (line_outcomes_by lines a k b) s
    (content_by (final lines a k) (a.form k) b)
line_given lines a k counts s (body.Public ps) good stands fine = grind arith
line_given lines a k counts s b good stands fine =
    given_by (final lines a k) counts (a.form k) s b good stands fine

-- what line k gives
pub record IsLineGiven (lines : List LineTree) (a : Assignment) (k : ℕ) : Type 0 where
  pub content : IsContent (final lines a k) (content_at lines a k)
  pub within : length (content_at lines a k).bytes ≤ size_at lines a k
  pub few : made_before lines a k + length (content_at lines a k).references ≤ made_before lines a (suc k)
  pub code : (length (content_at lines a k).bytes ≡ 0) ⊎ ((a.segment k).kind ≡ kind.Code)

made_at : (lines : List LineTree) (a : Assignment) (k : ℕ) → content_fault lines a k ≡ None
    → AreMade (made_before lines a k) (line_outcomes lines a k)
unfolding content_fault
made_at lines a k none = made (made_before lines a k) (line_outcomes lines a k) none

-- a line whose content has no fault
pub given_at : (lines : List LineTree) (a : Assignment) → IsFreeText lines a → (k : ℕ) → k < length lines
    → content_fault lines a k ≡ None → IsLineGiven lines a k
unfolding content_at size_at made_before line_outcomes
given_at lines a f k below none =
    let m = made_at lines a k none in
    let g = line_given lines a k (above lines a k) (a.segment k) (body_at lines k) (f.good k)
    (free lines a k (f.placed k below)).stands m.fine in
    record { content = g.content; within = g.within; few = omega (arith, g.few, m.made_is); code = g.code }

module _ (lines : List LineTree) (a : Assignment) (c : IsClean lines a) where
  pub given : (k : ℕ) → k < length lines → IsLineGiven lines a k
  given k below = grind (arith, given_at)

  -- no more fixups are made than a module may have
  pub made_most : (k : ℕ) → k ≤ length lines → made_before lines a k ≤ 65535
  unfolding made_before
  made_most zero within = omega arith
  made_most (suc k) within =
      (made_at lines a k (c.content k (omega (arith, within)))).most (made_most k (omega (arith, within)))

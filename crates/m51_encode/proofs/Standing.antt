-- The bytes that are coded are those of an instruction that the line means.
use Rattle.std.proofs.Common.{◌≡◌, ℕ, Bool, true, false, cond, List, Option, Some, None, Ok, Err, refl, subst, sym, ◌∙◌}
use Rattle.std.proofs.Common.{◌⊎◌, inl, inr}
use Rattle.std.specs.Prelude.{IfOk, IfSome, nat_lt, slice_get}
use borrow.Author.Tests.{ltb-true}
use Rattle.m51_isa.specs.declared.instr.Instr.{Instr}
use Rattle.m51_isa.specs.declared.look.Look.{Look}
use Rattle.m51_isa.specs.declared.look.Look.TheVariants as look
use Rattle.m51_isa.specs.declared.slot.Slot.{Slot}
use Rattle.m51_isa.specs.declared.slot.Slot.TheVariants.{Nothing, A, Ab, C, Dptr, APc, ADptr, AtDptr, R, AtR, Imm}
use Rattle.m51_isa.specs.declared.slot.Slot.TheVariants.{Plain, NotBit}
use Rattle.m51_isa.specs.Table.{length_of as row_length}
use Rattle.m51_isa.specs.declared.slot.FieldSlot.{FieldSlot}
use Rattle.m51_isa.specs.Spelling.{field_in, look_of, Text, text, text_of}
use Rattle.m51_isa.specs.Filling.{with_numbers}
use Rattle.m51_isa.specs.TextLaws.{slot_with_number, refilled, HasRowText}
use Rattle.m51_isa.proofs.RowsFilled.{texts_are_rows}
use Rattle.m51_expr.specs.Meanings.{Meanings}
use Rattle.m51_expr.specs.Operand as line
use Rattle.m51_expr.specs.Operand.{OperandTree}
use Rattle.m51_encode.specs.JumpForm.{address_after}
use Rattle.m51_encode.specs.declared.coding.Coded.{Coded}
use Rattle.m51_encode.specs.declared.filling.Held.{Held}
use Rattle.m51_expr.specs.Tree.{Tree}
use Rattle.m51_expr.specs.Evaluation.{value_of}
use Rattle.m51_encode.specs.declared.reference.Reference.{Reference}
use Rattle.m51_encode.specs.Filling.{Answer, and_then, valued, filled, references_of}
use Rattle.m51_encode.specs.Coding.{Line, look_in, line_row, coded_as, first_of, second_of, third_of, coded_in}
use Rattle.m51_encode.specs.Coding.{coded_by}
use Rattle.m51_encode.specs.Meaning.{GivesField, Fills, meant, TextStands, byte_of, BeginsAt, StandsFor}
use Rattle.m51_encode.specs.Meaning.{CodedStandsForLine}
use Rattle.m51_encode.proofs.ReferencesLie.{begins_there, kind_is, Begins, begins, fields_are_apart, first_lies}
use Rattle.m51_encode.proofs.ReferencesLie.{second_lies, third_lies, only_fields, same_byte}

-- an operand of a row that looks so, by cases
abbrev Shows : Look → Slot → Type 0
Shows look.Nothing Nothing = Unit {0}
Shows look.A A = Unit {0}
Shows look.Ab Ab = Unit {0}
Shows look.C C = Unit {0}
Shows look.Dptr Dptr = Unit {0}
Shows look.APc APc = Unit {0}
Shows look.ADptr ADptr = Unit {0}
Shows look.AtDptr AtDptr = Unit {0}
Shows (look.R n) (R m) = n ≡ m
Shows (look.AtR n) (AtR m) = n ≡ m
Shows look.Imm (Imm f) = Unit {0}
Shows look.Plain (Plain f) = Unit {0}
Shows look.NotBit (NotBit f) = Unit {0}
Shows a slot = ⊥

shows_itself : (s : Slot) → Shows (look_of s) s
shows_itself (R n) = refl
shows_itself (AtR n) = refl
shows_itself s = tt

shown : (a : Look) (s : Slot) → look_of s ≡ a → Shows a s
shown a s e = subst (λ v. Shows v s) e (shows_itself s)

register_fills : (names : Meanings) (next : ℕ) (rs : List (Option Reference)) (n k : ℕ) (b : Bool) → nat_lt n 8 ≡ b
    → (s : Slot) → Shows (cond b (look.R n) look.Other) s → Fills names next rs (Some (line.R n)) (slot_with_number s k)
register_fills names next rs n k true below (R m) h = record { same = h; there = ltb-true n 8 below }
register_fills names next rs n k true below s h = absurd h
register_fills names next rs n k false below s h = absurd h

pointer_fills : (names : Meanings) (next : ℕ) (rs : List (Option Reference)) (n k : ℕ) (b : Bool) → nat_lt n 2 ≡ b
    → (s : Slot) → Shows (cond b (look.AtR n) look.Other) s
    → Fills names next rs (Some (line.AtR n)) (slot_with_number s k)
pointer_fills names next rs n k true below (AtR m) h = record { same = h; there = ltb-true n 2 below }
pointer_fills names next rs n k true below s h = absurd h
pointer_fills names next rs n k false below s h = absurd h

-- what an operand gave lies where its field begins, if it has one
abbrev Lies : List (Option Reference) → Slot → Held → Type 0
Lies rs s held = (f : FieldSlot) → field_in s ≡ Some f → held.byte ≡ f.byte → slice_get rs f.byte ≡ Some held.reference

field_fills : (names : Meanings) (next : ℕ) (rs : List (Option Reference)) (s : Slot) (f : FieldSlot) (t : Tree)
    (held : Held) → field_in s ≡ Some f → Lies rs s held → valued names next f.field f.byte (value_of names t) ≡ Ok held
    → GivesField names next rs (refilled f held.number) t
field_fills names next rs s f t held is lies e = record {
  held = held;
  value = e;
  is = refl;
  lies = lies f is (begins_there names next f.byte f.field (value_of names t) held e);
  kind = kind_is names next f.byte f.field (value_of names t) held e;
}

-- an operand that gave a number, and looks like the operand of a row, means that operand with the number
operand_fills : (names : Meanings) (next : ℕ) (rs : List (Option Reference)) (o : Option OperandTree) (s : Slot)
    (held : Held) → Lies rs s held → filled names next (field_in s) o ≡ Ok held → Shows (look_in o) s
    → Fills names next rs o (slot_with_number s held.number)
operand_fills names next rs None Nothing held lies e h = tt
operand_fills names next rs (Some line.A) A held lies e h = tt
operand_fills names next rs (Some line.Ab) Ab held lies e h = tt
operand_fills names next rs (Some line.C) C held lies e h = tt
operand_fills names next rs (Some line.Dptr) Dptr held lies e h = tt
operand_fills names next rs (Some line.APc) APc held lies e h = tt
operand_fills names next rs (Some line.ADptr) ADptr held lies e h = tt
operand_fills names next rs (Some line.AtDptr) AtDptr held lies e h = tt
operand_fills names next rs (Some (line.R n)) s held lies e h =
    register_fills names next rs n held.number (nat_lt n 8) refl s h
operand_fills names next rs (Some (line.AtR n)) s held lies e h =
    pointer_fills names next rs n held.number (nat_lt n 2) refl s h
operand_fills names next rs (Some (line.Imm t)) (Imm f) held lies e h =
    field_fills names next rs (Imm f) f t held refl lies e
operand_fills names next rs (Some (line.Plain t)) (Plain f) held lies e h =
    field_fills names next rs (Plain f) f t held refl lies e
operand_fills names next rs (Some (line.NotBit t)) (NotBit f) held lies e h =
    field_fills names next rs (NotBit f) f t held refl lies e
operand_fills names next rs o s held lies e h = absurd h

pub then_ok : {A B : Type 0} (r : Answer A) (go : A → Answer B) (P : B → Type 0) → ((a : A) → r ≡ Ok a → IfOk (go a) P)
    → IfOk (and_then r go) P
then_ok (Ok a) go P h = h a refl
then_ok (Err e) go P h = tt

spelled : (P : Instr → Type 0) (x : Option Instr) (i : Instr) → x ≡ Some i → IfSome x P → P i
spelled P x i e h = subst (λ v. IfSome v P) e h

-- the fields of the row begin where those of its text with other numbers do
renumbered : (byte m n k : ℕ) (s t u : Slot)
    → (byte_of (field_in s) ≡ Some byte) ⊎ ((byte_of (field_in t) ≡ Some byte) ⊎ (byte_of (field_in u) ≡ Some byte))
    → (byte_of (field_in (slot_with_number s m)) ≡ Some byte) ⊎
    ((byte_of (field_in (slot_with_number t n)) ≡ Some byte) ⊎ (byte_of (field_in (slot_with_number u k)) ≡ Some byte))
renumbered byte m n k s t u (inl h) = inl (sym (same_byte s m) ∙ h)
renumbered byte m n k s t u (inr (inl h)) = inr (inl (sym (same_byte t n) ∙ h))
renumbered byte m n k s t u (inr (inr h)) = inr (inr (sym (same_byte u k) ∙ h))

-- the line means the row with the numbers that the operands gave
numbered_stands : (names : Meanings) (l : Line) (row : Instr) (a b c : Held) → line_row l ≡ Some row
    → first_of names row l.first ≡ Ok a → second_of names row l.second ≡ Ok b → third_of names row l.third ≡ Ok c
    → StandsFor names l (coded_as row a b c)
numbered_stands names l row a b c found in_first in_second in_third =
    let i : Instr = with_numbers row a.number b.number c.number in
    let next : ℕ = address_after names (row_length row) in
    let rs : List (Option Reference) = references_of a b c in
    let first : Slot = (text_of row).first in
    let second : Slot = (text_of row).second in
    let third : Slot = (text_of row).third in
    let P : Instr → Type 0 = HasRowText (meant l) (look_in l.first) (look_in l.second) (look_in l.third) in
    let as_line : P row =
    spelled P (line_row l) row found
    (texts_are_rows.meant l.mnemonic l.jump (look_in l.first) (look_in l.second) (look_in l.third)) in
    let begins_a : Begins (field_in first) a = begins names next (field_in first) l.first a in_first in
    let begins_b : Begins (field_in second) b = begins names next (field_in second) l.second b in_second in
    let begins_c : Begins (field_in third) c = begins names next (field_in third) l.third c in_third in
    let apart = fields_are_apart row in
    let lies_a : Lies rs first a =
    λ f is at. first_lies a b c (field_in first) (field_in second) (field_in third) begins_a begins_b begins_c f is
    apart.first at in
    let lies_b : Lies rs second b =
    λ f is at. second_lies a b c (field_in first) (field_in second) (field_in third) begins_a begins_b begins_c f is
    apart.second at in
    let lies_c : Lies rs third c =
    λ f is at. third_lies a b c (field_in first) (field_in second) (field_in third) begins_a begins_b begins_c f is
    apart.third at in
    let t : Text = text (text_of row).mnemonic (slot_with_number first a.number) (slot_with_number second b.number)
    (slot_with_number third c.number) in
    let whole : TextStands names next rs l t = record {
      mnemonic = sym as_line.mnemonic;
      first = operand_fills names next rs l.first first a lies_a in_first (shown (look_in l.first) first as_line.first);
      second = operand_fills names next rs l.second second b lies_b in_second
          (shown (look_in l.second) second as_line.second);
      third = operand_fills names next rs l.third third c lies_c in_third (shown (look_in l.third) third as_line.third);
    } in
    let has = texts_are_rows.filled row a.number b.number c.number in
    let of_text : TextStands names next rs l (text_of i) = subst (TextStands names next rs l) (sym has.same) whole in
    record {
      instr = i;
      text = subst (λ n. TextStands names (address_after names n) rs l (text_of i)) (sym has.length) of_text;
      code = refl;
      only = λ byte r h. subst (λ (x : Text). BeginsAt x byte) (sym has.same)
          (renumbered byte a.number b.number c.number first second third
          (only_fields a b c (field_in first) (field_in second) (field_in third) begins_a begins_b begins_c byte r h));
    }

row_stands : (names : Meanings) (l : Line) (row : Instr) → line_row l ≡ Some row
    → IfOk (coded_in names l.first l.second l.third row) (StandsFor names l)
row_stands names l row found =
    let P : Coded → Type 0 = StandsFor names l in
    then_ok (first_of names row l.first) _ P (λ a in_first.
    then_ok (second_of names row l.second) _ P (λ b in_second.
    then_ok (third_of names row l.third) _ P (λ c in_third.
    numbered_stands names l row a b c found in_first in_second in_third)))

by_row : (names : Meanings) (l : Line) (o : Option Instr) → line_row l ≡ o
    → IfOk (coded_by names l o) (StandsFor names l)
by_row names l (Some row) found = row_stands names l row found
by_row names l None found = tt

pub coded_stands_for_line : CodedStandsForLine
coded_stands_for_line names l = by_row names l (line_row l) refl

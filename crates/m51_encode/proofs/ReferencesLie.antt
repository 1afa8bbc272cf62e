-- Each reference lies at the byte where its field begins, with the form of the field, and no other does.
use Rattle.std.proofs.Common.{◌≡◌, ℕ, zero, suc, Bool, true, false, not, ◌&&◌, cond, Option, Some, None, Ok, Err, refl}
use Rattle.std.proofs.Common.{ap, subst, sym, ◌∙◌, ◌⊎◌, inl, inr, arith}
use Rattle.std.specs.Prelude.{IfSome, nat_lt, ◌==◌, slice_get}
use Rattle.std.specs.Option.{option_or}
use Rattle.std.proofs.lemmas.Bool.{and_parts}
use borrow.Author.Tests.{ltb-true}
use Rattle.std.proofs.lemmas.Bool.Decides.{eqb_tells}
use Rattle.std.proofs.lemmas.Bool.{not-true}
use Rattle.m51_isa.specs.declared.instr.Instr.{Instr}
use Rattle.m51_isa.specs.declared.instr.Instr.TheVariants.{Nop}
use Rattle.m51_isa.specs.declared.slot.Field.{Field}
use Rattle.m51_isa.specs.declared.slot.FieldSlot.{FieldSlot}
use Rattle.m51_isa.specs.declared.slot.Slot.{Slot}
use Rattle.m51_isa.specs.declared.slot.Slot.TheVariants.{Imm, Plain, NotBit}
use Rattle.m51_isa.specs.Spelling.{field_in, text_of}
use Rattle.m51_isa.specs.TextLaws.{slot_with_number}
use Rattle.m51_expr.specs.declared.value.Value.{Value}
use Rattle.m51_expr.specs.Value.{Valued}
use Rattle.m51_expr.specs.Tree.{Tree}
use Rattle.m51_expr.specs.Meanings.{Meanings}
use Rattle.m51_expr.specs.Evaluation.{value_of}
use Rattle.m51_expr.specs.Operand.{OperandTree}
use Rattle.m51_encode.specs.declared.reference.FieldValue.{FieldValue}
use Rattle.m51_encode.specs.declared.reference.FieldValue.TheVariants.{Number, Linked}
use Rattle.m51_encode.specs.declared.reference.Reference.{Reference}
use Rattle.m51_encode.specs.declared.filling.Held.{Held}
use Rattle.m51_encode.specs.Reference.{reference_of}
use Rattle.m51_encode.specs.FieldValues.{field_of}
use Rattle.m51_encode.specs.Filling.{Answer, and_then, or_out_of_range, held_at, nothing, valued, expression, filled_by}
use Rattle.m51_encode.specs.Filling.{filled, beginning_at, reference_at, references_of}
use Rattle.m51_encode.specs.Meaning.{IsReferenceOf, byte_of}
use Rattle.m51_encode.proofs.BitNumbers.{linked_is}

abbrev ok : Held → Answer Held
ok held = Ok held

ok_is : (a b : Held) → ok a ≡ ok b → a ≡ b
ok_is a b h = cc h

-- what the field of a value holds, if there is one
abbrev of_field : ℕ → Option FieldValue → Answer Held
of_field byte o = and_then (or_out_of_range o) (λ held. Ok (held_at byte held))

byte_is : (byte : ℕ) (o : Option FieldValue) (held : Held) → of_field byte o ≡ ok held → held.byte ≡ byte
byte_is byte (Some (Number n)) held h = sym (ap (λ (x : Held). x.byte) (ok_is (held_at byte (Number n)) held h))
byte_is byte (Some (Linked r)) held h = sym (ap (λ (x : Held). x.byte) (ok_is (held_at byte (Linked r)) held h))
byte_is byte None held h = absurd (cc h)

-- the field of a value begins at its byte
pub begins_there : (names : Meanings) (next byte : ℕ) (at : Field) (value : Valued Value) (held : Held)
    → valued names next at byte value ≡ Ok held → held.byte ≡ byte
begins_there names next byte at (Ok v) held h = byte_is byte (field_of names at next v) held h
begins_there names next byte at (Err e) held h = absurd (cc h)

kind_by : (names : Meanings) (at : Field) (v : Value) (byte : ℕ) (o : Option FieldValue) (held : Held)
    → ((r : Reference) → o ≡ Some (Linked r) → reference_of names at v ≡ r)
    → of_field byte o ≡ ok held → IfSome held.reference (λ r. r ≡ reference_of names at v)
kind_by names at v byte (Some (Number n)) held go h =
    subst (λ (x : Held). IfSome x.reference (λ r. r ≡ reference_of names at v)) (ok_is (held_at byte (Number n)) held h)
    tt
kind_by names at v byte (Some (Linked r)) held go h =
    subst (λ (x : Held). IfSome x.reference (λ r. r ≡ reference_of names at v)) (ok_is (held_at byte (Linked r)) held h)
    (sym (go r refl))
kind_by names at v byte None held go h = absurd (cc h)

-- the reference of a field is that of the value in a field of this kind
pub kind_is : (names : Meanings) (next byte : ℕ) (at : Field) (value : Valued Value) (held : Held)
    → valued names next at byte value ≡ Ok held → IfSome held.reference (IsReferenceOf names at value)
kind_is names next byte at (Ok v) held h =
    kind_by names at v byte (field_of names at next v) held (linked_is names at next v) h
kind_is names next byte at (Err e) held h = absurd (cc h)

-- an operand that has a reference beginning at a byte has a field that begins there
abbrev pub Begins : Option FieldSlot → Held → Type 0
Begins field h = (k : ℕ) (r : Reference) → beginning_at k h ≡ Some r → byte_of field ≡ Some k

is_true : (b : Bool) (o : Option Reference) (r : Reference) → cond b o None ≡ Some r → b ≡ true
is_true true o r h = refl
is_true false o r h = absurd (cc h)

at_byte : (m k : ℕ) (o : Option Reference) (r : Reference) → cond (m == k) o None ≡ Some r → m ≡ k
at_byte m k o r h = elim (eqb_tells m k) [ inl p ↦ p.1 | inr p ↦ absurd (cc (p.0, is_true (m == k) o r h)) ]

here_is : (m k : ℕ) (o : Option Reference) → m ≡ k → cond (m == k) o None ≡ o
here_is m k o e = elim (eqb_tells m k) [ inl p ↦ ap (λ b. cond b o None) p.0 | inr p ↦ absurd (p.1 e) ]

none_either : (b : Bool) (r : Reference) → cond b None None ≡ Some r → ⊥
none_either true r h = cc h
none_either false r h = cc h

nothing_begins : (field : Option FieldSlot) (h : Held) → ok nothing ≡ ok h → Begins field h
nothing_begins field h e k r is =
    absurd (none_either (0 == k) r (subst (λ (x : Held). beginning_at k x ≡ Some r) (sym (ok_is nothing h e)) is))

by_expression : (names : Meanings) (next : ℕ) (slot : FieldSlot) (t : Option Tree) (h : Held)
    → filled_by names next slot t ≡ Ok h → Begins (Some slot) h
by_expression names next slot (Some t) h e k r is =
    ap Some (sym (begins_there names next slot.byte slot.field (value_of names t) h e)
    ∙ at_byte h.byte k h.reference r is)
by_expression names next slot None h e k r is = nothing_begins (Some slot) h e k r is

pub begins : (names : Meanings) (next : ℕ) (field : Option FieldSlot) (o : Option OperandTree) (h : Held)
    → filled names next field o ≡ Ok h → Begins field h
begins names next (Some slot) (Some operand) h e k r is = by_expression names next slot (expression operand) h e k r is
begins names next (Some slot) None h e k r is = nothing_begins (Some slot) h e k r is
begins names next None o h e k r is = nothing_begins None h e k r is

abbrev at_same : ℕ → Option ℕ → Bool
at_same k (Some byte) = byte == k
at_same k None = false

not_same : (k : ℕ) (w : Option ℕ) → w ≡ Some k → at_same k w ≡ false → ⊥
not_same k (Some m) e off = elim (eqb_tells m k) [ inl p ↦ cc (p.0, off) | inr p ↦ p.1 (cc e) ]
not_same k None e off = cc e

silent_by : (field : Option FieldSlot) (k : ℕ) (o : Option Reference)
    → ((r : Reference) → o ≡ Some r → byte_of field ≡ Some k) → at_same k (byte_of field) ≡ false → o ≡ None
silent_by field k None b off = refl
silent_by field k (Some r) b off = absurd (not_same k (byte_of field) (b r refl) off)

silent : (field : Option FieldSlot) (h : Held) (k : ℕ) → Begins field h → at_same k (byte_of field) ≡ false
    → beginning_at k h ≡ None
silent field h k b off = silent_by field k (beginning_at k h) (b k) off

-- a field lies in the three bytes, and neither of two others begins where it does
abbrev lone : Option ℕ → Option ℕ → Option ℕ → Bool
lone (Some k) g h = nat_lt k 3 && (not (at_same k g) && not (at_same k h))
lone None g h = true

pub record AreApart (i : Instr) : Type 0 where
  pub first : lone (byte_of (field_in (text_of i).first)) (byte_of (field_in (text_of i).second))
      (byte_of (field_in (text_of i).third)) ≡ true
  pub second : lone (byte_of (field_in (text_of i).second)) (byte_of (field_in (text_of i).first))
      (byte_of (field_in (text_of i).third)) ≡ true
  pub third : lone (byte_of (field_in (text_of i).third)) (byte_of (field_in (text_of i).first))
      (byte_of (field_in (text_of i).second)) ≡ true

-- the fields of a row begin at different bytes
pub fields_are_apart : (i : Instr) → AreApart i
fields_are_apart Nop = record { first = refl; second = refl; third = refl }
fields_are_apart i = record { first = refl; second = refl; third = refl }

got : (a b c : Held) (k : ℕ) → nat_lt k 3 ≡ true → slice_get (references_of a b c) k ≡ Some (reference_at k a b c)
got a b c zero h = refl
got a b c (suc zero) h = refl
got a b c (suc (suc zero)) h = refl
got a b c (suc (suc (suc k))) h = let below = ltb-true (suc (suc (suc k))) 3 h in absurd (omega (arith, below))

first_or : (x : Option Reference) → option_or x (option_or None None) ≡ x
first_or None = refl
first_or (Some r) = refl

second_or : (x : Option Reference) → option_or None (option_or x None) ≡ x
second_or None = refl
second_or (Some r) = refl

first_of : (x y z w : Option Reference) → x ≡ w → y ≡ None → z ≡ None → option_or x (option_or y z) ≡ w
first_of x y z w e f g = cc (first_or w)

second_of : (x y z w : Option Reference) → y ≡ w → x ≡ None → z ≡ None → option_or x (option_or y z) ≡ w
second_of x y z w e f g = cc (second_or w)

third_of : (x y z w : Option Reference) → z ≡ w → x ≡ None → y ≡ None → option_or x (option_or y z) ≡ w
third_of None None z w e f g = e
third_of (Some r) y z w e f g = absurd (cc f)
third_of None (Some r) z w e f g = absurd (cc g)

record Apart (k : ℕ) (g h : Option ℕ) : Type 0 where
  within : nat_lt k 3 ≡ true
  one : at_same k g ≡ false
  other : at_same k h ≡ false

apart : (field : Option FieldSlot) (g h : Option ℕ) (f : FieldSlot) → field ≡ Some f → lone (byte_of field) g h ≡ true
    → Apart f.byte g h
apart field g h f is all =
    let alone : lone (Some f.byte) g h ≡ true = subst (λ x. lone (byte_of x) g h ≡ true) is all in
    let parts = and_parts (nat_lt f.byte 3) (not (at_same f.byte g) && not (at_same f.byte h)) alone in
    let others = and_parts (not (at_same f.byte g)) (not (at_same f.byte h)) parts.1 in
    record {
      within = parts.0;
      one = not-true (at_same f.byte g) others.0;
      other = not-true (at_same f.byte h) others.1;
    }

-- three operands of a row, with what they gave
module _ (a b c : Held) (in_a in_b in_c : Option FieldSlot) (begins_a : Begins in_a a) (begins_b : Begins in_b b)
    (begins_c : Begins in_c c) where
  pub first_lies : (f : FieldSlot) → in_a ≡ Some f → lone (byte_of in_a) (byte_of in_b) (byte_of in_c) ≡ true
      → a.byte ≡ f.byte → slice_get (references_of a b c) f.byte ≡ Some a.reference
  first_lies f is all at =
      let p = apart in_a (byte_of in_b) (byte_of in_c) f is all in
      got a b c f.byte p.within
      ∙ ap Some (first_of (beginning_at f.byte a) (beginning_at f.byte b) (beginning_at f.byte c) a.reference
      (here_is a.byte f.byte a.reference at) (silent in_b b f.byte begins_b p.one)
      (silent in_c c f.byte begins_c p.other))

  pub second_lies : (f : FieldSlot) → in_b ≡ Some f → lone (byte_of in_b) (byte_of in_a) (byte_of in_c) ≡ true
      → b.byte ≡ f.byte → slice_get (references_of a b c) f.byte ≡ Some b.reference
  second_lies f is all at =
      let p = apart in_b (byte_of in_a) (byte_of in_c) f is all in
      got a b c f.byte p.within
      ∙ ap Some (second_of (beginning_at f.byte a) (beginning_at f.byte b) (beginning_at f.byte c) b.reference
      (here_is b.byte f.byte b.reference at) (silent in_a a f.byte begins_a p.one)
      (silent in_c c f.byte begins_c p.other))

  pub third_lies : (f : FieldSlot) → in_c ≡ Some f → lone (byte_of in_c) (byte_of in_a) (byte_of in_b) ≡ true
      → c.byte ≡ f.byte → slice_get (references_of a b c) f.byte ≡ Some c.reference
  third_lies f is all at =
      let p = apart in_c (byte_of in_a) (byte_of in_b) f is all in
      got a b c f.byte p.within
      ∙ ap Some (third_of (beginning_at f.byte a) (beginning_at f.byte b) (beginning_at f.byte c) c.reference
      (here_is c.byte f.byte c.reference at) (silent in_a a f.byte begins_a p.one)
      (silent in_b b f.byte begins_b p.other))

  begun : (k : ℕ) (r : Reference) → (x y z : Option Reference) → beginning_at k a ≡ x → beginning_at k b ≡ y
      → beginning_at k c ≡ z → Some (option_or x (option_or y z)) ≡ Some (Some r)
      → (byte_of in_a ≡ Some k) ⊎ ((byte_of in_b ≡ Some k) ⊎ (byte_of in_c ≡ Some k))
  begun k r (Some s) y z ex ey ez h = inl (begins_a k s ex)
  begun k r None (Some s) z ex ey ez h = inr (inl (begins_b k s ey))
  begun k r None None (Some s) ex ey ez h = inr (inr (begins_c k s ez))
  begun k r None None None ex ey ez h = absurd (cc h)

  -- a reference lies where the field of an operand begins
  pub only_fields : (k : ℕ) (r : Reference) → slice_get (references_of a b c) k ≡ Some (Some r)
      → (byte_of in_a ≡ Some k) ⊎ ((byte_of in_b ≡ Some k) ⊎ (byte_of in_c ≡ Some k))
  only_fields zero r h = begun 0 r (beginning_at 0 a) (beginning_at 0 b) (beginning_at 0 c) refl refl refl h
  only_fields (suc zero) r h = begun 1 r (beginning_at 1 a) (beginning_at 1 b) (beginning_at 1 c) refl refl refl h
  only_fields (suc (suc zero)) r h = begun 2 r (beginning_at 2 a) (beginning_at 2 b) (beginning_at 2 c) refl refl refl h
  only_fields (suc (suc (suc k))) r h = absurd (cc h)

-- numbers do not move fields
pub same_byte : (s : Slot) (n : ℕ) → byte_of (field_in s) ≡ byte_of (field_in (slot_with_number s n))
same_byte (Imm f) n = refl
same_byte (Plain f) n = refl
same_byte (NotBit f) n = refl
same_byte s n = refl

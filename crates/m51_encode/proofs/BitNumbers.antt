-- References name bits only for CONV.
use Rattle.std.proofs.Common.{◌≡◌, ℕ, ◌%◌, Bool, true, false, ◌&&◌, ◌||◌, cond, Some, refl, subst}
use Rattle.m51_expr.specs.declared.value.Part.{Part}
use Rattle.m51_expr.specs.declared.value.Part.TheVariants.{Whole, High, Low, Bit}
use Rattle.m51_expr.specs.declared.value.Value.{Value}
use Rattle.m51_expr.specs.Value.{counted}
use Rattle.m51_expr.specs.Meanings.{Meanings, is_unplaced}
use Rattle.m51_module.specs.Validity.{IsBitNumber}
use Rattle.m51_isa.specs.declared.slot.Field.{Field}
use Rattle.m51_isa.specs.declared.slot.Field.TheVariants as field
use Rattle.m51_encode.specs.declared.reference.FieldValue.TheVariants.{Number, Linked}
use Rattle.m51_encode.specs.declared.reference.Reference.{Reference}
use Rattle.m51_encode.specs.Taking.{takes_class, takes_part, takes_number, held_of}
use Rattle.m51_encode.specs.Reference.{form_of, bit_of_part, reference_of}
use Rattle.m51_encode.specs.Bases.{is_current, stands_absolute, is_linked}
use Rattle.m51_encode.specs.FieldValues.{is_taken, distance, is_near, same_block, rel_of, addr11_of, taken_of, field_of}
use Rattle.m51_encode.specs.FieldLaws.{IsBitOf, ReferencesHaveBits}
use Rattle.m51_cells.proofs.Passing.{guarded}
use Rattle.std.proofs.lemmas.Bool.{and_parts}
use Rattle.m51_encode.proofs.TakenFields.{referred, no_reference}

-- the form and the bit of a part in a field fit one another
bit_fits : (at : Field) (part : Part) → takes_part at part ≡ true → IsBitOf part
    → IsBitNumber (form_of at part) (bit_of_part part)
bit_fits field.Data Whole h is = refl
bit_fits field.Data High h is = refl
bit_fits field.Data Low h is = refl
bit_fits field.Data (Bit b) h is = is b refl
bit_fits field.Direct Whole h is = refl
bit_fits field.Direct High h is = refl
bit_fits field.Direct Low h is = refl
bit_fits field.Direct (Bit b) h is = is b refl
bit_fits field.Bit Whole h is = refl
bit_fits field.Bit (Bit b) h is = is b refl
bit_fits field.Data16 Whole h is = refl
bit_fits field.Addr16 Whole h is = refl
bit_fits field.Addr11 Whole h is = refl
bit_fits field.Rel Whole h is = refl
bit_fits at part h is = absurd (cc h)

stored_reference : (linked : Bool) (n : ℕ) (l r : Reference)
    → Some (cond linked (Linked l) (Number n)) ≡ Some (Linked r) → l ≡ r
stored_reference true n l r h = cc h
stored_reference false n l r h = absurd (cc h)

-- a field that is a reference is that of the value
reference_is : (names : Meanings) (at : Field) (next : ℕ) (v : Value) (r : Reference)
    → taken_of names at next v ≡ Some (Linked r) → reference_of names at v ≡ r
reference_is names field.Rel next v r h =
    referred (is_current names v.base) (is_linked names v.base) (stands_absolute names) (rel_of next (counted v))
    (reference_of names field.Rel v) r
    (no_reference (is_near (distance next (counted v))) (distance next (counted v) % 256)
    (reference_of names field.Rel v) r)
    h
reference_is names field.Addr11 next v r h =
    referred false (is_linked names v.base) (stands_absolute names) (addr11_of next (counted v))
    (reference_of names field.Addr11 v) r
    (no_reference (same_block (counted v) next) (counted v % 2048) (reference_of names field.Addr11 v) r) h
reference_is names field.Data next v r h =
    stored_reference (is_linked names v.base) (held_of field.Data (counted v)) (reference_of names field.Data v) r h
reference_is names field.Direct next v r h =
    stored_reference (is_linked names v.base) (held_of field.Direct (counted v)) (reference_of names field.Direct v) r h
reference_is names field.Bit next v r h =
    stored_reference (is_linked names v.base) (held_of field.Bit (counted v)) (reference_of names field.Bit v) r h
reference_is names field.Data16 next v r h =
    stored_reference (is_linked names v.base) (held_of field.Data16 (counted v)) (reference_of names field.Data16 v) r h
reference_is names field.Addr16 next v r h =
    stored_reference (is_linked names v.base) (held_of field.Addr16 (counted v)) (reference_of names field.Addr16 v) r h

-- what a value leaves to the linker in a field is its reference there
pub linked_is : (names : Meanings) (at : Field) (next : ℕ) (v : Value) (r : Reference)
    → field_of names at next v ≡ Some (Linked r) → reference_of names at v ≡ r
unfolding field_of
linked_is names at next v r h =
    reference_is names at next v r (guarded (is_taken names at v) (taken_of names at next v) (Linked r) h).1

pub references_have_bits : ReferencesHaveBits
unfolding field_of
references_have_bits names at next v r is h =
    let found = guarded (is_taken names at v) (taken_of names at next v) (Linked r) h in
    let stands = and_parts (takes_class at v.class && takes_part at v.part)
    (is_unplaced names v.base || takes_number at (counted v)) found.0 in
    let part = and_parts (takes_class at v.class) (takes_part at v.part) stands.0 in
    let Fits : Reference → Type 0 = λ r. IsBitNumber r.form r.bit in
    subst Fits (reference_is names at next v r found.1) (bit_fits at v.part part.1 is)

-- What the definitions promise of fields and of generic jumps.
use Rattle.std.specs.Prelude.{◌≡◌, ℕ, ◌+◌, ◌*◌, ◌/◌, ◌%◌, ◌<◌, ◌≤◌, IsTrue, Option, Some, None, IsSome, Ok, nat_lt}
use Rattle.std.specs.Prelude.{if◌then◌else◌}
use Rattle.m51_expr.specs.declared.value.Part.{Part}
use Rattle.m51_expr.specs.declared.value.Part.TheVariants.{Whole, Bit}
use Rattle.m51_expr.specs.declared.value.Value.{Value}
use Rattle.m51_expr.specs.Value.{counted}
use Rattle.m51_expr.specs.Meanings.{Meanings}
use Rattle.m51_module.specs.Validity.{IsBitNumber}
use Rattle.m51_isa.specs.declared.slot.Field.{Field}
use Rattle.m51_isa.specs.declared.slot.Field.TheVariants as field
use Rattle.m51_encode.specs.declared.reference.FieldValue.TheVariants.{Number, Linked}
use Rattle.m51_encode.specs.declared.reference.Reference.{Reference}
use Rattle.m51_isa.specs.declared.generics.Jump.{Jump}
use Rattle.m51_isa.specs.declared.generics.Verb.{Verb}
use Rattle.m51_isa.specs.declared.slot.FieldSlot.{FieldSlot}
use Rattle.m51_isa.specs.Generic.{jump_row}
use Rattle.m51_isa.specs.Spelling.{field_in, text_of}
use Rattle.m51_isa.specs.Table.{length_of}
use Rattle.m51_encode.specs.Taking.{takes_class}
use Rattle.m51_encode.specs.FieldValues.{field_of}
use Rattle.m51_encode.specs.JumpForm.{jump_form_of, address_after}

-- the slot has a field, which can hold the target; `next` is the address after the statement
abbrev pub HasFieldIn : Meanings → Value → ℕ → Option FieldSlot → Type 0
HasFieldIn names v next (Some slot) = IsSome (field_of names slot.field next v)
HasFieldIn names v next None = ⊥

-- a target of a generic jump has a field in the row of the form
abbrev pub HasField : Meanings → Verb → Value → Jump → Type 0
HasField names verb v form =
    let row = jump_row verb form in
    HasFieldIn names v (address_after names (length_of row)) (field_in (text_of row).first)

-- A whole target of class CODE or of none is never out of reach of the form that is chosen for it.
abbrev pub ChosenJumpsReach : Type 0
ChosenJumpsReach =
    (names : Meanings) (verb : Verb) (v : Value) → IsTrue (takes_class field.Addr16 v.class) → v.part ≡ Whole
    → HasField names verb v (jump_form_of names verb (Ok v))

-- an address and a signed byte
abbrev pub reached_by : ℕ → ℕ → ℕ
reached_by next rel = (next + (if nat_lt rel 128 then rel else rel + 65280)) % 65536

-- A computed signed byte leads from after the statement to the target.
abbrev pub RelativesLead : Type 0
RelativesLead =
    (names : Meanings) (next n : ℕ) (v : Value) → next < 65536 → counted v < 65536
    → field_of names field.Rel next v ≡ Some (Number n) → reached_by next n ≡ counted v

-- A computed address within a block leads from the block after the statement to the target.
abbrev pub BlocksLead : Type 0
BlocksLead =
    (names : Meanings) (next n : ℕ) (v : Value)
    → field_of names field.Addr11 next v ≡ Some (Number n) → next / 2048 * 2048 + n ≡ counted v

-- the number of a bit, where the dot names one
abbrev pub IsBitOf : Part → Type 0
IsBitOf part = (b : ℕ) → part ≡ Bit b → b ≤ 7

-- A reference is one that an object can hold: it has a bit number only for CONV.
abbrev pub ReferencesHaveBits : Type 0
ReferencesHaveBits =
    (names : Meanings) (at : Field) (next : ℕ) (v : Value) (r : Reference) → IsBitOf v.part
    → field_of names at next v ≡ Some (Linked r) → IsBitNumber r.form r.bit

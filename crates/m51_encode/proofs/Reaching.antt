-- The form that is chosen for a target reaches it.
use Rattle.std.proofs.Common.{◌≡◌, Bool, true, false, not, ◌&&◌, ◌||◌, cond, Option, Some, None, refl, ap, ◌∙◌}
use Rattle.std.specs.Prelude.{IsSome}
use Rattle.m51_cells.specs.declared.kind.Base.{Base}
use Rattle.m51_cells.specs.declared.kind.Base.TheVariants as base
use Rattle.m51_expr.specs.declared.value.Part.{Part}
use Rattle.m51_expr.specs.declared.value.Part.TheVariants.{Whole}
use Rattle.m51_expr.specs.declared.value.Value.{Value}
use Rattle.m51_expr.specs.Value.{counted}
use Rattle.m51_expr.specs.Meanings.{Meanings, is_unplaced}
use Rattle.m51_isa.specs.declared.slot.Field.{Field}
use Rattle.m51_isa.specs.declared.slot.Field.TheVariants as field
use Rattle.m51_encode.specs.declared.reference.FieldValue.{FieldValue}
use Rattle.m51_encode.specs.declared.reference.FieldValue.TheVariants.{Linked}
use Rattle.m51_isa.specs.declared.generics.Jump.{Jump}
use Rattle.m51_isa.specs.declared.generics.Jump.TheVariants as jump
use Rattle.m51_isa.specs.declared.generics.Verb.{Verb}
use Rattle.m51_isa.specs.declared.generics.Verb.TheVariants.{Jmp, Call}
use Rattle.m51_encode.specs.Taking.{takes_class, takes_part}
use Rattle.m51_encode.specs.Reference.{reference_of}
use Rattle.m51_encode.specs.Bases.{is_current, stands_absolute, is_linked}
use Rattle.m51_encode.specs.FieldValues.{is_taken, distance, is_near, same_block, rel_of, addr11_of, relative_of}
use Rattle.m51_encode.specs.FieldValues.{block_of, taken_of, field_of}
use Rattle.m51_encode.specs.JumpForm.{address_after, is_byte, is_own, is_short, shortest, jump_form_of}
use Rattle.m51_encode.specs.FieldLaws.{HasField, ChosenJumpsReach}
use Rattle.std.proofs.lemmas.Bool.{and_parts}
use Rattle.m51_encode.proofs.TakenFields.{same_classes_relative, same_classes_block}

-- a place of a code address takes a whole value of its class
taken : (a b unplaced : Bool) → a ≡ true → b ≡ true → (a && b && (unplaced || true)) ≡ true
taken true true true ha hb = refl
taken true true false ha hb = refl
taken true false unplaced ha hb = absurd (cc hb)
taken false b unplaced ha hb = absurd (cc ha)

has_value : (b : Bool) (o : Option FieldValue) → b ≡ true → IsSome o → IsSome (cond b o None)
has_value true o h is = is
has_value false o h is = absurd (cc h)

-- computed where the target is current or the segment absolute, and else linked
relative_has : (current linked absolute : Bool) (r : Option FieldValue) (l : FieldValue) → IsSome r
    → (current ≡ false → absolute ≡ true)
    → IsSome (cond current r (cond linked (Some l) (cond absolute r None)))
relative_has true linked absolute r l is own = is
relative_has false true absolute r l is own = refl
relative_has false false true r l is own = is
relative_has false false false r l is own = absurd (cc (own refl))

block_has : (linked absolute : Bool) (r : Option FieldValue) (l : FieldValue) → IsSome r → absolute ≡ true
    → IsSome (cond linked (Some l) (cond absolute r None))
block_has true absolute r l is own = refl
block_has false true r l is own = is
block_has false false r l is own = absurd (cc own)

-- a target of the current segment or of none is computed
own_is_computed : (names : Meanings) (b : Base) → is_own names b ≡ true → is_current names b ≡ false
    → stands_absolute names ≡ true
own_is_computed names base.None own current = own
own_is_computed names (base.Segment s) own current = absurd (cc (own, current))
own_is_computed names (base.External n) own current = absurd (cc own)

short_has : (names : Meanings) (verb : Verb) (v : Value) → takes_class field.Addr16 v.class ≡ true
    → takes_part field.Rel v.part ≡ true
    → is_own names v.base ≡ true → is_short verb (address_after names 2) (counted v) ≡ true
    → HasField names verb v jump.Short
unfolding field_of
short_has names Call v class part own near = absurd (cc near)
short_has names Jmp v class part own near =
    has_value (is_taken names field.Rel v) (relative_of names (address_after names 2) v)
    (taken (takes_class field.Rel v.class) (takes_part field.Rel v.part) (is_unplaced names v.base)
    (same_classes_relative v.class class) part)
    (relative_has (is_current names v.base) (is_linked names v.base) (stands_absolute names)
    (rel_of (address_after names 2) (counted v)) (Linked (reference_of names field.Rel v))
    (has_value (is_near (distance (address_after names 2) (counted v))) (Some _) near refl)
    (own_is_computed names v.base own))

block_field : (names : Meanings) (v : Value) → takes_class field.Addr16 v.class ≡ true
    → takes_part field.Addr11 v.part ≡ true
    → stands_absolute names ≡ true → same_block (counted v) (address_after names 2) ≡ true
    → IsSome (field_of names field.Addr11 (address_after names 2) v)
unfolding field_of
block_field names v class part absolute same =
    has_value (is_taken names field.Addr11 v) (block_of names (address_after names 2) v)
    (taken (takes_class field.Addr11 v.class) (takes_part field.Addr11 v.part) (is_unplaced names v.base)
    (same_classes_block v.class class) part)
    (block_has (is_linked names v.base) (stands_absolute names) (addr11_of (address_after names 2) (counted v))
    (Linked (reference_of names field.Addr11 v))
    (has_value (same_block (counted v) (address_after names 2)) (Some _) same refl)
    absolute)

block_has_field : (names : Meanings) (verb : Verb) (v : Value) → takes_class field.Addr16 v.class ≡ true
    → takes_part field.Addr11 v.part ≡ true
    → stands_absolute names ≡ true → same_block (counted v) (address_after names 2) ≡ true
    → HasField names verb v jump.Block
block_has_field names Jmp v class part absolute same = block_field names v class part absolute same
block_has_field names Call v class part absolute same = block_field names v class part absolute same

long_field : (names : Meanings) (v : Value) → takes_class field.Addr16 v.class ≡ true
    → takes_part field.Addr16 v.part ≡ true → IsSome (field_of names field.Addr16 (address_after names 3) v)
unfolding field_of
long_field names v class part =
    has_value (is_taken names field.Addr16 v) (taken_of names field.Addr16 (address_after names 3) v)
    (taken (takes_class field.Addr16 v.class) (takes_part field.Addr16 v.part) (is_unplaced names v.base) class part)
    refl

long_has : (names : Meanings) (verb : Verb) (v : Value) → takes_class field.Addr16 v.class ≡ true
    → takes_part field.Addr16 v.part ≡ true → HasField names verb v jump.Long
long_has names Jmp v class part = long_field names v class part
long_has names Call v class part = long_field names v class part

-- the form of a choice
shortest_has : (P : Jump → Type 0) (short absolute same : Bool) → (short ≡ true → P jump.Short)
    → (absolute ≡ true → same ≡ true → P jump.Block) → P jump.Long
    → P (cond short jump.Short (cond (absolute && same) jump.Block jump.Long))
shortest_has P true absolute same s b l = s refl
shortest_has P false true true s b l = b refl refl
shortest_has P false true false s b l = l
shortest_has P false false same s b l = l

own_has : (P : Jump → Type 0) (own : Bool) (j : Jump) → (own ≡ true → P j) → P jump.Long → P (cond own j jump.Long)
own_has P true j s l = s refl
own_has P false j s l = l

whole_stands : (at : Field) (part : Part) → part ≡ Whole → takes_part at part ≡ true
whole_stands at part h = ap (takes_part at) h ∙ whole_taken at
  where
    whole_taken : (at : Field) → takes_part at Whole ≡ true
    whole_taken at = refl

pub chosen_jumps_reach : ChosenJumpsReach
unfolding jump_form_of
chosen_jumps_reach names verb v class whole =
    own_has (HasField names verb v) (is_own names v.base && not (is_byte v.part))
    (shortest names verb (address_after names 2) (counted v))
    (λ own. shortest_has (HasField names verb v) (is_short verb (address_after names 2) (counted v))
    (stands_absolute names) (same_block (counted v) (address_after names 2))
    (λ near. short_has names verb v class (whole_stands field.Rel v.part whole)
    (and_parts (is_own names v.base) (not (is_byte v.part)) own).0 near)
    (λ absolute same. block_has_field names verb v class (whole_stands field.Addr11 v.part whole) absolute same)
    (long_has names verb v class (whole_stands field.Addr16 v.part whole)))
    (long_has names verb v class (whole_stands field.Addr16 v.part whole))

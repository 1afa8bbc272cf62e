-- What is known of a value that gives a field.
use Rattle.std.proofs.Common.{◌≡◌, ℕ, Bool, true, false, cond, Option, Some, None, refl}
use Rattle.m51_cells.specs.declared.kind.Kind.{Kind}
use Rattle.m51_cells.specs.declared.kind.Kind.TheVariants.{Code, Number as NoKind}
use Rattle.m51_isa.specs.declared.slot.Field.TheVariants as field
use Rattle.m51_encode.specs.declared.reference.FieldValue.{FieldValue}
use Rattle.m51_encode.specs.declared.reference.Reference.{Reference}
use Rattle.m51_encode.specs.declared.reference.FieldValue.TheVariants.{Number, Linked}
use Rattle.m51_encode.specs.Taking.{takes_class}

-- a number is the computed one, where the other choices are a reference and none
pub computed : (current linked absolute : Bool) (r : Option FieldValue) (l : Reference) (n : ℕ)
    → cond current r (cond linked (Some (Linked l)) (cond absolute r None)) ≡ Some (Number n) → r ≡ Some (Number n)
computed true linked absolute r l n h = h
computed false true absolute r l n h = absurd (cc h)
computed false false true r l n h = h
computed false false false r l n h = absurd (cc h)

-- a reference is the one that is chosen, where the other choices are numbers and none
pub referred : (current linked absolute : Bool) (r : Option FieldValue) (l m : Reference)
    → (r ≡ Some (Linked m) → l ≡ m)
    → cond current r (cond linked (Some (Linked l)) (cond absolute r None)) ≡ Some (Linked m) → l ≡ m
referred true linked absolute r l m other h = other h
referred false true absolute r l m other h = cc h
referred false false true r l m other h = other h
referred false false false r l m other h = absurd (cc h)

-- a computed number is no reference
pub no_reference : (b : Bool) (n : ℕ) (l m : Reference) → cond b (Some (Number n)) None ≡ Some (Linked m) → l ≡ m
no_reference true n l m h = absurd (cc h)
no_reference false n l m h = absurd (cc h)

-- a computed number
pub number_is : (b : Bool) (m n : ℕ) → cond b (Some (Number m)) None ≡ Some (Number n) → m ≡ n
number_is true m n h = cc h
number_is false m n h = absurd (cc h)

-- the fields of code addresses take the same classes
pub same_classes_relative : (class : Kind) → takes_class field.Addr16 class ≡ true → takes_class field.Rel class ≡ true
same_classes_relative Code h = refl
same_classes_relative NoKind h = refl
same_classes_relative class h = h

pub same_classes_block : (class : Kind) → takes_class field.Addr16 class ≡ true → takes_class field.Addr11 class ≡ true
same_classes_block Code h = refl
same_classes_block NoKind h = refl
same_classes_block class h = h

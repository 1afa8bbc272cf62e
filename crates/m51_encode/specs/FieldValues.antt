-- What a value gives in a field of a statement: a number, a reference, or nothing, which is E14.
use Rattle.std.specs.Prelude.{ℕ, ◌%◌, ◌<◌, Bool, ◌&&◌, ◌||◌, if◌then◌else◌, Option, Some}
use Rattle.std.specs.Prelude.{None}
use Rattle.m51_expr.specs.declared.value.Value.{Value}
use Rattle.m51_expr.specs.Value.{counted}
use Rattle.m51_expr.specs.Meanings.{Meanings, is_unplaced}
use Rattle.m51_isa.specs.declared.slot.Field.{Field}
use Rattle.m51_isa.specs.declared.slot.Field.TheVariants.{Data16, Addr16, Addr11, Rel}
pub use Rattle.m51_isa.specs.Targets.{distance, is_near, in_one_block as same_block}
use Rattle.m51_encode.specs.declared.reference.FieldValue.{FieldValue}
use Rattle.m51_encode.specs.declared.reference.FieldValue.TheVariants.{Number, Linked}
use Rattle.m51_encode.specs.Taking.{takes_class, takes_part, takes_number, held_of}
use Rattle.m51_encode.specs.Reference.{reference_of}
use Rattle.m51_encode.specs.Bases.{is_current, stands_absolute, is_linked}

-- The field takes the class, the operator and the number. The number of a relocatable or external base is left to the
-- link.
abbrev pub is_taken : Meanings → Field → Value → Bool
is_taken names at v =
    takes_class at v.class && takes_part at v.part && (is_unplaced names v.base || takes_number at (counted v))

-- the signed byte from after a statement to a target
abbrev pub rel_of : ℕ → ℕ → Option FieldValue
rel_of next target = if is_near (distance next target) then Some (Number (distance next target % 256)) else None

-- the address of a target within the block of what is after a statement
abbrev pub addr11_of : ℕ → ℕ → Option FieldValue
addr11_of next target = if same_block target next then Some (Number (target % 2048)) else None

-- A relative target is computed in the current segment, and a number where that is absolute.
abbrev pub relative_of : Meanings → ℕ → Value → Option FieldValue
relative_of names next v =
    if is_current names v.base then rel_of next (counted v)
    else if is_linked names v.base then Some (Linked (reference_of names Rel v))
    else if stands_absolute names then rel_of next (counted v)
    else None

-- A target within a block is computed if it counts as a number and the statement is in an absolute segment.
abbrev pub block_of : Meanings → ℕ → Value → Option FieldValue
block_of names next v =
    if is_linked names v.base then Some (Linked (reference_of names Addr11 v))
    else if stands_absolute names then addr11_of next (counted v)
    else None

-- how many numbers a field can hold
abbrev pub field_capacity : Field → ℕ
field_capacity Data16 = 65536
field_capacity Addr16 = 65536
field_capacity Addr11 = 2048
field_capacity at = 256

-- a number that the field can hold
abbrev pub FitsField : Field → FieldValue → Type 0
FitsField at (Number n) = n < field_capacity at
FitsField at (Linked reference) = Unit {0}

-- a reference where the linker adds the base, else the number
abbrev pub stored_of : Meanings → Field → Value → FieldValue
stored_of names at v =
    if is_linked names v.base then Linked (reference_of names at v) else Number (held_of at (counted v))

-- what a value gives in a field that allows it
abbrev pub taken_of : Meanings → Field → ℕ → Value → Option FieldValue
taken_of names Rel next v = relative_of names next v
taken_of names Addr11 next v = block_of names next v
taken_of names at next v = Some (stored_of names at v)

-- what a value gives in a field, with the address after the statement
unfoldable pub field_of : Meanings → Field → ℕ → Value → Option FieldValue
field_of names at next v = if is_taken names at v then taken_of names at next v else None

-- What the items of DB and DW give: a field of 8 or 16 bits, or the characters of a text.
use Rattle.std.specs.Prelude.{ℕ, ◌/◌, ◌%◌, List, [], ◌∷◌, Option, Some, None, Ok}
use Rattle.m51_isa.specs.declared.slot.Field.{Field}
use Rattle.m51_isa.specs.declared.slot.Field.TheVariants.{Data, Data16}
use Rattle.m51_expr.specs.Meanings.{Meanings}
use Rattle.m51_expr.specs.Evaluation.{value_of}
use Rattle.m51_expr.specs.Operand.{ItemTree, Value, Text}
use Rattle.m51_encode.specs.declared.reference.FieldValue.{FieldValue}
use Rattle.m51_encode.specs.declared.reference.FieldValue.TheVariants.{Number, Linked}
use Rattle.m51_encode.specs.declared.item.Width.{Width}
use Rattle.m51_encode.specs.declared.item.Width.TheVariants.{Byte, Word}
use Rattle.m51_encode.specs.Filling.{Answer, and_then, fielded}

-- the field of a value
abbrev pub field_of_width : Width → Field
field_of_width Byte = Data
field_of_width Word = Data16

-- What an item gives in its field, or the fault of its value; a text has no field. No field of an item counts from what
-- is after it.
abbrev pub item_field : Meanings → Width → ItemTree → Answer (Option FieldValue)
item_field names width (Value e) =
    and_then (fielded names 0 (field_of_width width) (value_of names e)) (λ held. Ok (Some held))
item_field names width (Text characters) = Ok None

-- a number of 8 bits, or one of 16 bits with its high byte first
abbrev pub number_bytes : Width → ℕ → List ℕ
number_bytes Byte n = n % 256 ∷ []
number_bytes Word n = n / 256 ∷ n % 256 ∷ []

-- the bytes of a field, 0 where the linker fills it in
abbrev pub field_bytes : Width → FieldValue → List ℕ
field_bytes width (Number n) = number_bytes width n
field_bytes width (Linked r) = number_bytes width 0

-- the bytes of an item that gives this in its field: the characters of a text as they are
abbrev pub item_bytes : Width → ItemTree → Option FieldValue → List ℕ
item_bytes width (Text characters) held = characters
item_bytes width (Value e) (Some held) = field_bytes width held
item_bytes width (Value e) None = []

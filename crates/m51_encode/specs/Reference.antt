-- What the linker has to fill in: the form by the field, and under an operator by the operator.
use Rattle.std.specs.Prelude.{ℕ}
use Rattle.m51_expr.specs.declared.value.Part.{Part}
use Rattle.m51_expr.specs.declared.value.Part.TheVariants.{Whole, High, Low, Bit}
use Rattle.m51_expr.specs.declared.value.Value.{Value}
use Rattle.m51_expr.specs.Meanings.{Meanings}
use Rattle.m51_module.specs.declared.content.Form.{Form}
use Rattle.m51_module.specs.declared.content.Form.TheVariants as form
use Rattle.m51_isa.specs.declared.slot.Field.{Field}
use Rattle.m51_isa.specs.declared.slot.Field.TheVariants as field
use Rattle.m51_encode.specs.declared.reference.Reference.{Reference}
use Rattle.m51_encode.specs.Bases.{object_base}

-- the form of the field
abbrev pub form_of : Field → Part → Form
form_of field.Data16 part = form.Word
form_of field.Addr16 part = form.Word
form_of field.Addr11 part = form.Inblock
form_of field.Rel part = form.Relative
form_of at (Bit b) = form.Conv
form_of at High = form.High
form_of at Low = form.Low
form_of field.Bit Whole = form.Bit
form_of at Whole = form.Byte

-- the number of the bit, 0 where the dot names none
abbrev pub bit_of_part : Part → ℕ
bit_of_part (Bit b) = b
bit_of_part part = 0

-- what a value in the field leaves to the linker
abbrev pub reference_of : Meanings → Field → Value → Reference
reference_of names at v = record {
  form = form_of at v.part;
  bit = bit_of_part v.part;
  base = object_base names v.base;
  number = v.number;
}

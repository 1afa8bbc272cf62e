-- How many bytes the field of a reference has.
use Rattle.std.proofs.Common.{◌<◌, arith}
use Rattle.m51_module.specs.declared.content.Form.{Form}
use Rattle.m51_module.specs.Validity.{field_len}

-- a field has a byte
pub some_byte : (form : Form) → 0 < field_len form
some_byte form = grind arith

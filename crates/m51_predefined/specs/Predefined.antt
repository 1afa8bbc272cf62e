-- The values of names before any definition of a module.
use Rattle.std.specs.Prelude.{ℕ, ◌+◌, ◌*◌, List, Option, Some, None, option_map, position}
use Rattle.std.specs.Str.{bytes_eq}
use Rattle.m51_cells.specs.declared.kind.Kind.TheVariants as kind
use Rattle.m51_expr.specs.Words.{bank_registers}
use Rattle.m51_expr.specs.declared.value.Value.{Value}
use Rattle.m51_expr.specs.Value.{plain}
use Rattle.m51_sfr.specs.Registers.{address_in, bits, registers}

-- a register has the class DATA, a bit the class BIT; both are numbers without a base
abbrev pub register_or_bit : Option ℕ → Option ℕ → Option Value
register_or_bit (Some address) bit = Some (plain address kind.Direct)
register_or_bit None bit = option_map (λ address. plain address kind.Bits) bit

-- what the row of this name says
abbrev pub predefined_of : List ℕ → Option Value
predefined_of name = register_or_bit (address_in registers name) (address_in bits name)

-- which of AR0 to AR7 a name is
abbrev pub absolute_register_of : List ℕ → Option ℕ
absolute_register_of name = position (λ word. bytes_eq word name) bank_registers

-- the direct address of a register of a bank: each bank has eight
abbrev pub register_value : ℕ → ℕ → Value
register_value bank register = plain (8 * bank + register) kind.Direct

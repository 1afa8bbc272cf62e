-- The dot: bits of bytes (this project's rules on bits).
use Rattle.std.specs.Prelude.{ℕ, Bool, true, false, not, ◌&&◌, nat_lt, if◌then◌else◌, Option, Some, None, Ok}
use Rattle.m51_cells.specs.declared.kind.Base.{Base}
use Rattle.m51_cells.specs.declared.kind.Base.TheVariants as base
use Rattle.m51_cells.specs.declared.kind.Kind.{Kind}
use Rattle.m51_cells.specs.declared.kind.Kind.TheVariants as kind
use Rattle.m51_expr.specs.declared.value.Part.TheVariants.{Bit}
use Rattle.m51_expr.specs.declared.value.Value.{Value}
use Rattle.m51_cells.specs.declared.fault.TheConstants.{BASE_NOT_ALLOWED, NO_BIT}
use Rattle.m51_cells.specs.Outcome.{and_then}
use Rattle.m51_expr.specs.Value.{Valued, fault, plain, is_whole, bit_address, counted}
use Rattle.m51_expr.specs.Meanings.{Meanings, is_unplaced, as_number}
use Rattle.m51_expr.specs.Operators.{same_base}

-- a base that the link places has bits with addresses: an external of DATA, or a bit-addressable segment
abbrev pub has_bits : Meanings → Base → Kind → Bool
has_bits names (base.Segment s) class = names.bitaddressable s
has_bits names (base.External n) kind.Direct = true
has_bits names _ class = false

-- the dot keeps a base that is under no HIGH, LOW or dot
abbrev pub keeps_base : Value → Bool
keeps_base x = not (same_base x.base base.None) && is_whole x.part

-- a value as a bit of it, with its base
abbrev pub with_bit : Value → ℕ → Value
with_bit x bit = record { number = x.number; class = kind.Bits; base = x.base; part = Bit bit }

-- a bit address is a number without a base where there is none to keep
abbrev pub placed_bit : Value → ℕ → Option ℕ → Valued Value
placed_bit x bit None = fault NO_BIT
placed_bit x bit (Some address) = Ok (if keeps_base x then with_bit x bit else plain address kind.Bits)

-- a bit of a byte
abbrev pub dotted_bit : Meanings → Value → ℕ → Valued Value
dotted_bit names x bit =
    if nat_lt 7 bit then fault NO_BIT
    else if is_unplaced names x.base then (if has_bits names x.base x.class then Ok (with_bit x bit) else fault NO_BIT)
    else placed_bit x bit (bit_address (counted x) bit)

-- the dot between two operands
abbrev pub dot : Meanings → Value → Value → Valued Value
dot names x n =
    if is_unplaced names x.base && not (is_whole x.part) then fault BASE_NOT_ALLOWED
    else and_then (as_number names n) (dotted_bit names x)

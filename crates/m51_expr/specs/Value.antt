-- Values of expressions: what parts and bit addresses are (this project's rules of values).
use Rattle.std.specs.Prelude.{ℕ, ◌/◌, ◌%◌, Bool, true, false}
use Rattle.std.specs.Prelude.{Result, Err, unwrap_or}
use Rattle.m51_cells.specs.declared.kind.Base.{Base}
use Rattle.m51_cells.specs.declared.kind.Base.TheVariants as base
use Rattle.m51_cells.specs.declared.kind.Kind.{Kind}
pub use Rattle.m51_isa.specs.Targets.{bit_address}
use Rattle.m51_expr.specs.declared.value.Part.{Part}
use Rattle.m51_expr.specs.declared.value.Part.TheVariants.{Whole, High, Low, Bit}
use Rattle.m51_expr.specs.declared.value.Value.{Value}
use Rattle.m51_expr.specs.declared.fault.ExprError.{ExprError}

-- a value, or a fault
abbrev pub Valued : Type 0 → Type 0
Valued A = Result A ExprError

-- the fault of this number
abbrev pub fault : {A : Type 0} → ℕ → Valued A
fault k = Err (record { number = k })

-- a number that counts from a base, under no operator
abbrev pub whole : ℕ → Kind → Base → Value
whole n class b = record { number = n; class = class; base = b; part = Whole }

-- a number without a base
abbrev pub plain : ℕ → Kind → Value
plain n class = whole n class base.None

-- the number is under no HIGH, LOW or dot
abbrev pub is_whole : Part → Bool
is_whole Whole = true
is_whole part = false

-- A number under HIGH, LOW or the dot. A byte without a bit address does not occur: a value under the dot that has no
-- base, or an absolute one, was made of a byte with bits.
abbrev pub part_value : ℕ → Part → ℕ
part_value n Whole = n
part_value n High = n / 256
part_value n Low = n % 256
part_value n (Bit b) = unwrap_or (bit_address n b) 0

-- what a value with no base or an absolute one counts as in an operator
abbrev pub counted : Value → ℕ
counted v = part_value v.number v.part

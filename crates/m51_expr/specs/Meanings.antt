-- The values of names, and the place of a statement.
use Rattle.std.specs.Prelude.{ℕ, Bool, true, false, not, if◌then◌else◌, List, Option, Ok}
use Rattle.m51_cells.specs.declared.kind.Base.{Base}
use Rattle.m51_cells.specs.declared.kind.Base.TheVariants as base
use Rattle.m51_expr.specs.declared.value.Value.{Value}
use Rattle.m51_cells.specs.declared.fault.TheConstants.{BASE_NOT_ALLOWED}
use Rattle.m51_expr.specs.Value.{Valued, fault, counted}

-- The values of names, the place of the statement, which segments are absolute or bit-addressable, and the number of
-- each in the object, 0 for one that it does not have. Values do not depend on these numbers.
pub record Meanings : Type 0 where
  pub value : List ℕ → Option Value
  pub here : Value
  pub fixed : ℕ → Bool
  pub bitaddressable : ℕ → Bool
  pub number : ℕ → ℕ

-- an absolute segment
abbrev pub is_absolute_base : Meanings → Base → Bool
is_absolute_base names (base.Segment s) = names.fixed s
is_absolute_base names _ = false

-- relocatable or external: the link places it
abbrev pub is_unplaced : Meanings → Base → Bool
is_unplaced names base.None = false
is_unplaced names (base.Segment s) = not (names.fixed s)
is_unplaced names (base.External n) = true

-- what an operand counts as where no base is allowed but an absolute one
abbrev pub as_number : Meanings → Value → Valued ℕ
as_number names v = if is_unplaced names v.base then fault BASE_NOT_ALLOWED else Ok (counted v)

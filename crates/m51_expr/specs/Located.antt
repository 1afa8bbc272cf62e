-- Values whose segments have numbers of any width, as the values that the definitions are about.
use Rattle.std.specs.Prelude.{ℕ, Result, Ok, Err}
use Rattle.m51_cells.specs.declared.kind.Base.{Base}
use Rattle.m51_cells.specs.declared.kind.Base.TheVariants as base
use Rattle.m51_expr.specs.declared.value.Value.{Value}
use Rattle.m51_expr.specs.declared.fault.ExprError.{ExprError}
use Rattle.m51_expr.specs.declared.located.Origin.{Origin}
use Rattle.m51_expr.specs.declared.located.Origin.TheVariants as origin
use Rattle.m51_expr.specs.declared.located.Located.{Located}
use Rattle.m51_expr.specs.Value.{Valued}

-- the base that an origin is; `number` gives the number of a segment
abbrev pub base_by : {S : Type 0} → (S → ℕ) → Origin S → Base
base_by number origin.None = base.None
base_by number (origin.Segment s) = base.Segment (number s)
base_by number (origin.External external) = base.External external

-- the value that it is
abbrev pub value_by : {S : Type 0} → (S → ℕ) → Located S → Value
value_by number v = record { number = v.number; class = v.class; base = base_by number v.origin; part = v.part }

-- a value, or a fault
abbrev pub valued_by : {S : Type 0} → (S → ℕ) → Result (Located S) ExprError → Valued Value
valued_by number (Ok v) = Ok (value_by number v)
valued_by number (Err e) = Err e

-- the same three for numbers of the code, of one byte or of four
abbrev pub origin_base : Origin ℕ → Base
origin_base o = base_by (λ n. n) o

abbrev pub located_value : Located ℕ → Value
located_value v = value_by (λ n. n) v

abbrev pub located : Result (Located ℕ) ExprError → Valued Value
located r = valued_by (λ n. n) r

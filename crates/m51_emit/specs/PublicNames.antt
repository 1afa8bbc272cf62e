-- What PUBLIC makes of a name (this project's rules of publics).
use Rattle.std.specs.Prelude.{ℕ, ◌+◌, ◌-◌, ◌%◌, ◌==◌, not, if◌then◌else◌, List, ◌∷◌, Option, Some, None, Result, Ok}
use Rattle.std.specs.Prelude.{Err}
use Rattle.m51_cells.specs.declared.fault.TheConstants.{UNKNOWN_NAME, BASE_NOT_ALLOWED, OUT_OF_RANGE}
use Rattle.m51_cells.specs.declared.kind.Base.{Base}
use Rattle.m51_cells.specs.declared.kind.Base.TheVariants as base
use Rattle.m51_cells.specs.Kinds.{same_kind}
use Rattle.m51_module.specs.declared.symbol.Public.{Public}
use Rattle.m51_expr.specs.declared.value.Value.{Value}
use Rattle.m51_expr.specs.Value.{is_whole}
use Rattle.m51_encode.specs.declared.outcome.OperandOutcome.{OperandOutcome}
use Rattle.m51_encode.specs.declared.outcome.OperandOutcome.TheVariants.{Faulty, Stands}
use Rattle.m51_emit.specs.declared.publics.Definer.{Definer}
use Rattle.m51_emit.specs.declared.publics.Definer.TheVariants as by
use Rattle.m51_emit.specs.declared.publics.PublicSegment.{PublicSegment}

-- a public, or the number of a fault
abbrev pub Published : Type 0
Published = Result Public ℕ

abbrev pub public : List ℕ → Value → Base → ℕ → Published
public name v base number = Ok (record { name = name; kind = v.class; base = base; number = number })

-- an address as it counts from a base, modulo 65,536
abbrev pub from_base : ℕ → ℕ → ℕ
from_base base address = (65536 + address - base) % 65536

-- A value that counts from this segment: from its base, and as a number where the number of the segment is 0, since the
-- module does not have it.
abbrev pub public_from : List ℕ → Value → PublicSegment → Published
public_from name v s =
    if not (same_kind v.class s.kind) then Err OUT_OF_RANGE
    else if s.number == 0 then public name v base.None v.number
    else public name v (base.Segment s.number) (from_base s.base v.number)

-- Values of an external have no public, nor have those of a segment under HIGH, LOW or the dot.
abbrev pub public_of_value : List ℕ → Value → PublicSegment → Base → Published
public_of_value name v s base.None = public name v base.None v.number
public_of_value name v s (base.External external) = Err BASE_NOT_ALLOWED
public_of_value name v s (base.Segment id) = if is_whole v.part then public_from name v s else Err BASE_NOT_ALLOWED

abbrev pub public_valued : List ℕ → PublicSegment → Option Value → Published
public_valued name s (Some v) = public_of_value name v s v.base
public_valued name s None = Err UNKNOWN_NAME

-- What a name becomes whose value counts from this segment: externals, segments and SET names are E8; a name without a
-- value is E7.
abbrev pub public_by : List ℕ → Definer → PublicSegment → Option Value → Published
public_by name by.Segment s value = Err BASE_NOT_ALLOWED
public_by name by.Set s value = Err BASE_NOT_ALLOWED
public_by name by.External s value = Err BASE_NOT_ALLOWED
public_by name by.Other s value = public_valued name s value

abbrev pub public_outcome : Published → OperandOutcome
public_outcome (Ok p) = Stands
public_outcome (Err number) = Faulty number

abbrev pub if_public : Published → List Public → List Public
if_public (Ok p) more = p ∷ more
if_public (Err number) more = more

-- The record of a public.
use Rattle.std.specs.Prelude.{ℕ, zero, suc, List, ◌∷◌, ◌++◌, map, Result, Ok}
use Rattle.m51_cells.specs.declared.kind.Base.{Base}
use Rattle.m51_cells.specs.declared.kind.Base.TheVariants.{None as NoBase, Segment as InSegment, External as OfExternal}
use Rattle.m51_cells.specs.declared.kind.Kind.{Kind}
use Rattle.m51_module.specs.declared.segment.Segment.{Segment}
use Rattle.m51_module.specs.declared.symbol.Public.{Public}
use Rattle.m51_module.specs.Validity.{numbered}
use Rattle.m51_module.specs.declared.object_error.ObjError.{ObjError}
use Rattle.m51_cells.specs.Kinds.{same_kind}
use Rattle.m51_records.specs.Codes.{kind_number}
use Rattle.m51_records.specs.Externals.{kind_at}
use Rattle.m51_frame.specs.Fields.{◌>>=◌, checked, or_absent, byte_at, pair, pair_at, text_field, new_name_at}

-- the segment's number, or 0
abbrev pub base_number : Base → ℕ
base_number NoBase = 0
base_number (InSegment number) = number
base_number (OfExternal number) = number

-- kind, segment or 0, number, name
abbrev pub public_contents : Public → List ℕ
public_contents p = kind_number p.kind ∷ base_number p.base ∷ (pair p.number ++ text_field p.name)

-- the segment of that number, which has the kind; 0 is none
abbrev pub base_of_public : List Segment → Kind → ℕ → ℕ → List ℕ → Result Base ObjError
base_of_public segments kind zero end field = Ok NoBase
base_of_public segments kind (suc before) end field = do
  segment ← or_absent (numbered segments (suc before)) end field
  checked (same_kind segment.kind kind) end field (InSegment (suc before))

unfoldable pub public_base_at : List Segment → Kind → ℕ → List ℕ → Result (Base × List ℕ) ObjError
public_base_at segments kind end bytes = do
  number ← byte_at end bytes
  base ← base_of_public segments kind number.0 end bytes
  Ok (base, number.1)

-- no public before has the name
unfoldable pub public_in : List Segment → List Public → ℕ → List ℕ → Result Public ObjError
public_in segments before end bytes = do
  kind ← kind_at end bytes
  base ← public_base_at segments kind.0 end kind.1
  number ← pair_at end base.1
  name ← new_name_at (map (λ (p : Public). p.name) before) end number.1
  Ok (record { name = name; kind = kind.0; base = base.0; number = number.0 })

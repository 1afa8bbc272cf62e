-- The record of an external.
use Rattle.std.specs.Prelude.{ℕ, nat_lt, List, ◌∷◌, length, map, Result, Ok}
use Rattle.m51_cells.specs.declared.kind.Kind.{Kind}
use Rattle.m51_cells.specs.declared.limits.TheConstants.{MOST_EXTERNALS}
use Rattle.m51_module.specs.declared.symbol.External.{External}
use Rattle.m51_module.specs.declared.object_error.ObjError.{ObjError}
use Rattle.m51_records.specs.Codes.{kind_number, kind_of}
use Rattle.m51_frame.specs.Fields.{◌>>=◌, checked, or_broken, byte_at, text_field, new_name_at}

-- kind, name
abbrev pub external_contents : External → List ℕ
external_contents e = kind_number e.kind ∷ text_field e.name

-- a kind, NUMBER too
unfoldable pub kind_at : ℕ → List ℕ → Result (Kind × List ℕ) ObjError
kind_at end bytes = do
  number ← byte_at end bytes
  kind ← or_broken (kind_of number.0) end bytes
  Ok (kind, number.1)

-- at most 255 externals, whose names differ
unfoldable pub external_in : List External → ℕ → List ℕ → Result External ObjError
external_in before end bytes = do
  all ← checked (nat_lt (length before) MOST_EXTERNALS) end bytes bytes
  kind ← kind_at end all
  name ← new_name_at (map (λ (e : External). e.name) before) end kind.1
  Ok (record { name = name; kind = kind.0 })

-- What bases of modules refer to. Modules are counted from 0, segments and externals of a module from 1.
use Rattle.std.specs.Prelude.{ℕ, List, slice_get, IsSome, Option, Some, None, option_and_then}
use Rattle.std.specs.Option.{option_map_or}
use Rattle.m51_cells.specs.declared.kind.Base.{Base}
use Rattle.m51_cells.specs.declared.kind.Base.TheVariants.{None as NoBase, Segment as InSegment, External as OfExternal}
use Rattle.m51_module.specs.declared.content.Fixup.{Fixup}
use Rattle.m51_module.specs.declared.parts.ModuleParts.{ModuleParts}
use Rattle.m51_module.specs.declared.symbol.Public.{Public}
use Rattle.m51_resolve.specs.declared.referent.Referent.{Referent}
use Rattle.m51_resolve.specs.Joining.{part_of, segment_at}
use Rattle.m51_resolve.specs.Publics.{external_at, public_of}

-- the module of that number has the segment or the external that the base names
abbrev pub IsBaseThere : List ModuleParts → ℕ → Base → Type 0
IsBaseThere modules m NoBase = Unit {0}
IsBaseThere modules m (InSegment s) = IsSome (segment_at modules m s)
IsBaseThere modules m (OfExternal e) = IsSome (external_at modules m e)

-- the module has what the fixup names: the segment of its field, and its target
pub record IsFixupThere (modules : List ModuleParts) (m : ℕ) (f : Fixup) : Type 0 where
  pub segment : IsSome (segment_at modules m f.segment)
  pub target : IsBaseThere modules m f.target

-- the part that a base is, if it is a segment
abbrev pub own_part : List ModuleParts → ℕ → Base → Option (ℕ × ℕ)
own_part modules m (InSegment s) = Some (part_of modules m s)
own_part modules m other = None

-- the public of that index, from 0, of the module
abbrev pub public_at : List ModuleParts → ℕ → ℕ → Option Public
public_at modules m index =
    option_and_then (λ (chosen : ModuleParts). slice_get chosen.publics index) (slice_get modules m)

-- 0, from nothing
abbrev pub nothing : Referent
nothing = record { part = None; number = 0 }

-- what a public of the module refers to: its number, from the beginning of its segment, if it has one
abbrev pub public_referent : List ModuleParts → ℕ → Public → Referent
public_referent modules m p = record { part = own_part modules m p.base; number = p.number }

-- What a base of the module refers to: the beginning of its segment; what the public refers to that resolves its
-- external; or nothing.
abbrev pub referent : List ModuleParts → ℕ → Base → Referent
referent modules m (OfExternal e) =
    let found : ℕ × ℕ = public_of modules m e in
    option_map_or (public_referent modules found.0) (public_at modules found.0 found.1) nothing
referent modules m base = record { part = own_part modules m base; number = 0 }

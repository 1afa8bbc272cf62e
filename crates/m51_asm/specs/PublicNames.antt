-- What PUBLIC makes of a name (this project's rules of publics).
use Rattle.std.specs.Prelude.{ℕ, List, [], ◌∷◌, Option, Some, None}
use Rattle.m51_cells.specs.declared.kind.Base.{Base}
use Rattle.m51_cells.specs.declared.kind.Base.TheVariants as base
use Rattle.m51_cells.specs.declared.kind.Kind.TheVariants.{Code}
use Rattle.m51_module.specs.declared.symbol.Public.{Public}
use Rattle.m51_expr.specs.declared.value.Value.{Value}
use Rattle.m51_text.specs.Answer.{LineTree}
pub use Rattle.m51_emit.specs.PublicNames.{Published, public_by, public_outcome, if_public}
use Rattle.m51_emit.specs.declared.publics.Definer.{Definer}
use Rattle.m51_emit.specs.declared.publics.Definer.TheVariants as by
use Rattle.m51_emit.specs.declared.publics.PublicSegment.{PublicSegment}
use Rattle.m51_asm.specs.Definitions.{Definition, SegmentOf, SetOf, ExternOf, definition_of}
use Rattle.m51_asm.specs.Assignment.{TextSegment, Assignment}
use Rattle.m51_asm.specs.ObjectSegments.{segment_number, segment_of}

-- what defines a name, as far as PUBLIC asks
abbrev pub definer_by : Option (ℕ × Definition) → Definer
definer_by (Some (line, SegmentOf kind)) = by.Segment
definer_by (Some (line, SetOf e)) = by.Set
definer_by (Some (line, ExternOf kind number)) = by.External
definer_by definition = by.Other

-- a segment of the text with its number in the module
abbrev pub numbered_as : TextSegment → ℕ → PublicSegment
numbered_as s number = record { kind = s.kind; base = s.base; number = number }

abbrev pub base_segment : (ℕ → PublicSegment) → Base → PublicSegment
base_segment segments (base.Segment id) = segments id
base_segment segments b = record { kind = Code; base = 0; number = 0 }

-- the segment that a value counts from; where it counts from none, this does not matter
abbrev pub counted_from : (ℕ → PublicSegment) → Option Value → PublicSegment
counted_from segments (Some v) = base_segment segments v.base
counted_from segments None = base_segment segments base.None

-- what a name of PUBLIC in line k becomes
unfoldable pub published : List LineTree → Assignment → ℕ → List ℕ → Published
published lines a k name =
    public_by name (definer_by (definition_of lines name))
    (counted_from (λ id. numbered_as (segment_of lines a id) (segment_number lines a id)) (a.value k name))
    (a.value k name)

-- the publics of these names of line k
abbrev pub publics_of : List LineTree → Assignment → ℕ → List (List ℕ) → List Public
publics_of lines a k [] = []
publics_of lines a k (name ∷ names) = if_public (published lines a k name) (publics_of lines a k names)

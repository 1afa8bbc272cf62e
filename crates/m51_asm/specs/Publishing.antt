-- What PUBLIC makes of names, by what is kept for pass 2.
use Rattle.std.specs.Prelude.{ℕ, List, [], ◌∷◌, Option, Some, None, Ok, Err}
use Rattle.m51_module.specs.declared.symbol.Public.{Public}
use Rattle.m51_emit.specs.declared.publics.Definer.{Definer}
use Rattle.m51_emit.specs.declared.publics.Definer.TheVariants as by
use Rattle.m51_emit.specs.declared.publics.PublicSegment.{PublicSegment}
use Rattle.m51_emit.specs.Outcomes.{or_next}
use Rattle.m51_emit.specs.PublicNames.{Published, public_by, if_public}
use Rattle.m51_asm.specs.declared.definitions.How.{How}
use Rattle.m51_asm.specs.declared.definitions.How.TheVariants as how
use Rattle.m51_asm.specs.declared.names.FirstDefinition.{FirstDefinition}
use Rattle.m51_asm.specs.declared.names_at.NamesAt.{NamesAt}
use Rattle.m51_asm.specs.Table.{first_in}
use Rattle.m51_asm.specs.Numbering.{number_at}
use Rattle.m51_asm.specs.NamesAt.{names_at}
use Rattle.m51_asm.specs.PublicNames.{numbered_as, counted_from}
use Rattle.m51_asm.specs.SegmentTable.{segment_in}

abbrev pub definer_how : How → Definer
definer_how (how.Segment kind) = by.Segment
definer_how how.Set = by.Set
definer_how (how.External kind number) = by.External
definer_how other = by.Other

-- what defines a name of this first definition, as far as PUBLIC asks
abbrev pub definer_of : Option FirstDefinition → Definer
definer_of (Some first) = definer_how first.how
definer_of None = by.Other

-- a segment with its number in the module
abbrev pub segment_kept : NamesAt → ℕ → PublicSegment
segment_kept n id = numbered_as (segment_in n.segments.now id) (number_at n.numbers.now id)

-- what a name of PUBLIC becomes
abbrev pub published_by : NamesAt → List ℕ → Published
published_by n name =
    public_by name (definer_of (first_in n.text.names.now name))
    (counted_from (segment_kept n) ((names_at n).value name)) ((names_at n).value name)

-- the publics of these names
abbrev pub publics_among : (List ℕ → Published) → List (List ℕ) → List Public
publics_among of [] = []
publics_among of (name ∷ names) = if_public (of name) (publics_among of names)

abbrev pub fault_of_public : Published → Option ℕ
fault_of_public (Ok p) = None
fault_of_public (Err number) = Some number

-- the fault of the first of these names that has one
abbrev pub fault_among : (List ℕ → Published) → List (List ℕ) → Option ℕ
fault_among of [] = None
fault_among of (name ∷ names) = or_next (fault_of_public (of name)) (fault_among of names)

-- Of the code: joined segments while their parts are joined.
use Rattle.std.specs.Prelude.{◌≡◌, ℕ, ◌+◌, nat_lt, Bool, false, not, ◌||◌, if◌then◌else◌, List, [], ◌∷◌, ◌++◌, length}
use Rattle.std.specs.Prelude.{map, position, slice_get, slice_set, Option, Some, None}
use Rattle.m51_cells.specs.Kinds.{is_code, most_of}
use Rattle.m51_module.specs.declared.segment.Segment.{Segment}
use Rattle.m51_resolve.specs.declared.joining.Growing.{Growing}
use Rattle.m51_resolve.specs.declared.joining.SegmentPart.{SegmentPart}
use Rattle.m51_resolve.specs.declared.segment.JoinedSegment.{JoinedSegment}
use Rattle.m51_resolve.specs.Joining.{are_parts, is_relocatable, end_after, firsts, parts_with, start_after, title_of}
use Rattle.m51_resolve.specs.Rules.{is_mixed, parts_agree}

-- the joined segment that is seen first as this one, after these segments
abbrev pub growing_of : List Segment → Segment → Growing
growing_of before s = record { first = s; end = end_after 0 (parts_with before s); mixed = is_mixed before s }

-- all joined segments after these segments
abbrev pub all_growing : List Segment → List Growing
all_growing before = map (growing_of before) (firsts before)

-- the name and the number of each relocatable one, where the first of the list has this number; absolute ones count,
-- but are left out
abbrev pub numbers_from : ℕ → List Growing → List (List ℕ × ℕ)
numbers_from number [] = []
numbers_from number (g ∷ more) =
    if is_relocatable g.first.reloc then (g.first.name, number) ∷ numbers_from (number + 1) more
    else numbers_from (number + 1) more

-- a joined segment of one part, and one with one more part
abbrev pub begun : Segment → Growing
begun s = record { first = s; end = s.size; mixed = false }

abbrev pub grown : Growing → Segment → Growing
grown g s = record {
  first = g.first;
  end = start_after s.reloc g.end + s.size;
  mixed = g.mixed || not (parts_agree g.first s);
}

-- the number of the joined segment that a segment is a part of
abbrev pub joined_with : List Growing → Segment → Option ℕ
joined_with growing s = position (λ g. are_parts s g.first) growing

-- the joined segments with one more segment, and the part that it is, by the number of what it is joined with
abbrev pub JoinsAt : List Growing → Segment → Option ℕ → SegmentPart → List Growing → Type 0
JoinsAt old s None part new = (part ≡ record { number = length old; offset = 0 }) × (new ≡ old ++ begun s ∷ [])
JoinsAt old s (Some number) part new =
    (g : Growing) × (slice_get old number ≡ Some g)
    × (part ≡ record { number = number; offset = start_after s.reloc g.end })
    × (new ≡ slice_set old number (grown g s))

abbrev pub Joins : List Growing → Segment → SegmentPart → List Growing → Type 0
Joins old s part new = JoinsAt old s (joined_with old s) part new

-- it is larger than its kind and its type allow
abbrev pub is_large : Growing → Bool
is_large g = nat_lt (most_of g.first.kind g.first.reloc) g.end

-- it is a unit
abbrev pub is_unit : Growing → Bool
is_unit g = is_code g.first.kind

-- the joined segment whose parts are all joined
abbrev pub joined_as : Growing → JoinedSegment
joined_as g = record {
  title = title_of g.first;
  kind = g.first.kind;
  reloc = g.first.reloc;
  overlay = g.first.overlay;
  argument = g.first.argument;
  base = g.first.base;
  size = g.end;
}

-- How segments are joined: the relocatable ones of one name, in module order; an absolute one stays by itself.
use Rattle.std.specs.Prelude.{ℕ, ◌+◌, ◌-◌, ◌*◌, ◌/◌, Bool, not, ◌&&◌, if◌then◌else◌, List, [], ◌∷◌, ◌++◌, length, map}
use Rattle.std.specs.Prelude.{take, filter, flat_map, position, slice_get, Option, unwrap_or, option_and_then}
use Rattle.std.specs.List.{list_any}
use Rattle.std.specs.Option.{option_map_or}
use Rattle.std.specs.Str.{bytes_eq}
use Rattle.m51_cells.specs.declared.kind.Reloc.{Reloc}
use Rattle.m51_cells.specs.declared.kind.Reloc.TheVariants.{Page}
use Rattle.m51_cells.specs.Kinds.{is_absolute}
use Rattle.m51_cells.specs.Name.{title_at}
use Rattle.m51_module.specs.declared.parts.ModuleParts.{ModuleParts}
use Rattle.m51_module.specs.declared.segment.Segment.{Segment}
use Rattle.m51_module.specs.Validity.{numbered}
use Rattle.m51_resolve.specs.declared.joining.SegmentPart.{SegmentPart}
use Rattle.m51_resolve.specs.declared.segment.JoinedSegment.{JoinedSegment}

-- every type but that of absolute segments
abbrev pub is_relocatable : Reloc → Bool
is_relocatable reloc = not (is_absolute reloc)

-- the segments are parts of one: both are relocatable, and they have one name
abbrev pub are_parts : Segment → Segment → Bool
are_parts one two = is_relocatable one.reloc && is_relocatable two.reloc && bytes_eq one.name two.name

-- all segments of the modules, in module order
abbrev pub all_segments : List ModuleParts → List Segment
all_segments modules = flat_map (λ m. m.segments) modules

-- those of the segments that are seen first: none before them is a part of the same
abbrev pub firsts_after : List Segment → List Segment → List Segment
firsts_after before [] = []
firsts_after before (s ∷ more) =
    if list_any (are_parts s) before then firsts_after (before ++ s ∷ []) more
    else s ∷ firsts_after (before ++ s ∷ []) more

abbrev pub firsts : List Segment → List Segment
firsts all = firsts_after [] all

-- the parts of the segment that is joined with this one, in order
abbrev pub parts_with : List Segment → Segment → List Segment
parts_with all s = if is_relocatable s.reloc then filter (are_parts s) all else s ∷ []

-- where a part begins after that end: for PAGE at the least multiple of 256 that is not below it
abbrev pub start_after : Reloc → ℕ → ℕ
start_after Page end = (end + 255) / 256 * 256
start_after _ end = end

-- the end of these parts, each after the one before it, the first after that end
abbrev pub end_after : ℕ → List Segment → ℕ
end_after end [] = end
end_after end (s ∷ more) = end_after (start_after s.reloc end + s.size) more

-- the name of a relocatable segment, the title of an absolute one
abbrev pub title_of : Segment → List ℕ
title_of s = if is_relocatable s.reloc then s.name else title_at s.base

-- The joined segment that is seen first as this one. Its size is the end of its parts.
abbrev pub joined_of : List Segment → Segment → JoinedSegment
joined_of all s = record {
  title = title_of s;
  kind = s.kind;
  reloc = s.reloc;
  overlay = s.overlay;
  argument = s.argument;
  base = s.base;
  size = end_after 0 (parts_with all s);
}

-- the joined segments of the modules, numbered from 0 in order of first sight
abbrev pub segments_of : List ModuleParts → List JoinedSegment
segments_of modules = map (joined_of (all_segments modules)) (firsts (all_segments modules))

-- The part that a segment is, after those before it: the number is that of the joined segment with which it is joined,
-- or the next one; the offset is where it begins after the parts before it.
abbrev pub part_after : List Segment → Segment → SegmentPart
part_after before s = record {
  number = unwrap_or (position (are_parts s) (firsts before)) (length (firsts before));
  offset = start_after s.reloc (end_after 0 (filter (are_parts s) before));
}

-- the segment of that number, from 1, of the module of that number, from 0
abbrev pub segment_at : List ModuleParts → ℕ → ℕ → Option Segment
segment_at modules m s = option_and_then (λ (chosen : ModuleParts). numbered chosen.segments s) (slice_get modules m)

-- the segments before the one of that number in the module of that number
abbrev pub segments_before : List ModuleParts → ℕ → ℕ → List Segment
segments_before modules m s =
    all_segments (take m modules)
    ++ option_map_or (λ (chosen : ModuleParts). take (s - 1) chosen.segments) (slice_get modules m) []

-- The joined number and the offset of the part that a segment is; 0 and 0 where no segment has that number.
abbrev pub part_of : List ModuleParts → ℕ → ℕ → ℕ × ℕ
part_of modules m s =
    option_map_or
    (λ segment. let part : SegmentPart = part_after (segments_before modules m s) segment in (part.number, part.offset))
    (segment_at modules m s) (0, 0)

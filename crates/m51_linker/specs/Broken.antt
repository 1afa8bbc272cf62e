-- The first fixup whose rule fails, by joined segment and offset.
use Rattle.std.specs.Prelude.{ℕ, ◌+◌, Bool, ◌&&◌, ◌||◌, nat_eq, nat_le, nat_lt, if◌then◌else◌, List, [], ◌∷◌}
use Rattle.std.specs.Prelude.{slice_get, is_none, Option, Some, None, option_map}
use Rattle.std.specs.List.{filter_map}
use Rattle.std.specs.Option.{option_map_or}
use Rattle.m51_module.specs.declared.content.Fixup.{Fixup}
use Rattle.m51_module.specs.declared.linked.Refusal.{Refusal}
use Rattle.m51_module.specs.declared.linked.Refusal.TheVariants.{L13}
use Rattle.m51_module.specs.declared.parts.ModuleParts.{ModuleParts}
use Rattle.m51_place.specs.declared.placing.Placing.{Placing}
use Rattle.m51_resolve.specs.declared.segment.JoinedSegment.{JoinedSegment}
use Rattle.m51_resolve.specs.Joining.{part_of, segments_of}
use Rattle.m51_linker.specs.declared.checking.Spot.{Spot}
use Rattle.m51_linker.specs.Image.{fixup_field, of_modules}

-- the field of a fixup of the module: the number of its joined segment, and its offset there
abbrev pub spot_of : List ModuleParts → ℕ → Fixup → Spot
spot_of modules m f = record {
  number = (part_of modules m f.segment).0;
  offset = (part_of modules m f.segment).1 + f.offset;
}

-- the field of a fixup of the module, if its rule fails
abbrev pub broken_spot : List ModuleParts → Placing → ℕ → Fixup → Option Spot
broken_spot modules placing m f =
    if is_none (fixup_field modules placing m f) then Some (spot_of modules m f) else None

-- the fields of the module of that number whose rules fail, and those of all modules
abbrev pub module_broken : List ModuleParts → Placing → ℕ → List Spot
module_broken modules placing m =
    option_map_or (λ (parts : ModuleParts). filter_map (broken_spot modules placing m) parts.fixups)
    (slice_get modules m) []

abbrev pub broken_of : List ModuleParts → Placing → List Spot
broken_of modules placing = of_modules (module_broken modules placing) modules

-- the first lies not after the second: by joined number, then by offset
abbrev pub is_before : Spot → Spot → Bool
is_before one two = nat_lt one.number two.number || (nat_eq one.number two.number && nat_le one.offset two.offset)

-- the first of a spot and another one, if there is another
abbrev pub earlier_spot : Spot → Option Spot → Spot
earlier_spot spot None = spot
earlier_spot spot (Some other) = if is_before spot other then spot else other

-- the same for two spots, each of which may be missing
abbrev pub earlier_of : Option Spot → Option Spot → Option Spot
earlier_of None other = other
earlier_of (Some spot) other = Some (earlier_spot spot other)

-- the first of these
abbrev pub least_of : List Spot → Option Spot
least_of [] = None
least_of (spot ∷ more) = Some (earlier_spot spot (least_of more))

-- the title of the joined segment of that number
abbrev pub title_among : List JoinedSegment → ℕ → List ℕ
title_among segments number = option_map_or (λ (j : JoinedSegment). j.title) (slice_get segments number) []

-- L13: the segment of the first field whose rule fails, and the field's offset there
abbrev pub broken_at : List JoinedSegment → Spot → Refusal
broken_at segments spot = L13 (title_among segments spot.number) spot.offset

abbrev pub broken_rule : List ModuleParts → Placing → Option Refusal
broken_rule modules placing = option_map (broken_at (segments_of modules)) (least_of (broken_of modules placing))

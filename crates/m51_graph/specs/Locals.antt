-- Locals and argument segments of units, and which segments are overlaid.
use Rattle.std.specs.Prelude.{ℕ, Bool, true, false, ◌&&◌, ◌++◌, nat_eq, drop, if◌then◌else◌, List, [], ◌∷◌, map, find}
use Rattle.std.specs.Prelude.{is_none, Option, Some, None, option_map, option_and_then}
use Rattle.std.specs.List.{list_any, starts_with}
use Rattle.std.specs.Option.{option_map_or}
use Rattle.m51_cells.specs.declared.kind.Kind.{Kind}
use Rattle.m51_cells.specs.declared.kind.Kind.TheVariants.{Code, Xdata, Direct, Idata, Bits, Number}
use Rattle.m51_control.specs.declared.control.Control.{Control}
use Rattle.m51_control.specs.declared.control.Control.TheVariants.{NoOverlay}
use Rattle.m51_module.specs.Arguments.{argument_front}
use Rattle.m51_resolve.specs.declared.segment.JoinedSegment.{JoinedSegment}
use Rattle.m51_graph.specs.Units.{named}

-- how the names of the locals of each kind begin: ?DT?, ?ID?, ?BI? and ?XD?
abbrev pub local_front : Kind → Option (List ℕ)
local_front Direct = Some (0x3F ∷ 0x44 ∷ 0x54 ∷ 0x3F ∷ [])
local_front Idata = Some (0x3F ∷ 0x49 ∷ 0x44 ∷ 0x3F ∷ [])
local_front Bits = Some (0x3F ∷ 0x42 ∷ 0x49 ∷ 0x3F ∷ [])
local_front Xdata = Some (0x3F ∷ 0x58 ∷ 0x44 ∷ 0x3F ∷ [])
local_front Code = None
local_front Number = None

-- how the names of units begin that may have locals and an argument segment: ?PR?
abbrev pub unit_front : List ℕ
unit_front = 0x3F ∷ 0x50 ∷ 0x52 ∷ 0x3F ∷ []

-- how the name of the segment begins where it is that of a unit: ?AG? for one that is marked as an argument segment,
-- else as the locals of its kind
abbrev pub unit_prefix : JoinedSegment → Option (List ℕ)
unit_prefix j = if j.argument then Some argument_front else local_front j.kind

-- the name with ?PR? in place of this prefix of four bytes, if it begins with that
abbrev pub unit_name : List ℕ → List ℕ → Option (List ℕ)
unit_name title front = if starts_with nat_eq title front then Some (unit_front ++ drop 4 title) else None

-- the name of the segment's own unit
abbrev pub own_name : JoinedSegment → Option (List ℕ)
own_name j = option_and_then (unit_name j.title) (unit_prefix j)

-- the unit whose local or argument segment it is
abbrev pub own_unit : List (List ℕ) → JoinedSegment → Option ℕ
own_unit titles j = option_and_then (named titles) (own_name j)

-- L6: the first segment marked OVERLAYABLE that is neither a local nor the argument segment of a unit
abbrev pub is_lost : List (List ℕ) → JoinedSegment → Bool
is_lost titles j = j.overlay && is_none (own_unit titles j)

abbrev pub lost_segment : List (List ℕ) → List JoinedSegment → Option (List ℕ)
lost_segment titles segments = option_map (λ j. j.title) (find (is_lost titles) segments)

-- the line is NOOVERLAY of the unit
abbrev pub keeps_apart : List (List ℕ) → ℕ → Control → Bool
keeps_apart titles unit (NoOverlay name) = option_map_or (nat_eq unit) (named titles name) false
keeps_apart titles unit other = false

abbrev pub is_apart : List (List ℕ) → List (ℕ × Control) → ℕ → Bool
is_apart titles controls unit = list_any (λ line. keeps_apart titles unit line.1) controls

-- that unit, unless it is one whose segments are kept apart
abbrev pub unless_apart : (ℕ → Bool) → Option ℕ → Option ℕ
unless_apart apart None = None
unless_apart apart (Some unit) = if apart unit then None else Some unit

-- the own unit of a segment that is marked OVERLAYABLE, unless it is one whose segments are kept apart
abbrev pub overlaid_unless : (ℕ → Bool) → List (List ℕ) → JoinedSegment → Option ℕ
overlaid_unless apart titles j = if j.overlay then unless_apart apart (own_unit titles j) else None

-- the own unit of a segment that is overlaid: it is marked OVERLAYABLE, and no line keeps its own unit's segments apart
abbrev pub overlaid_by : List (List ℕ) → List (ℕ × Control) → JoinedSegment → Option ℕ
overlaid_by titles controls j = overlaid_unless (is_apart titles controls) titles j

-- for each joined segment its own unit, where it is overlaid
abbrev pub own_units : List (List ℕ) → List (ℕ × Control) → List JoinedSegment → List (Option ℕ)
own_units titles controls segments = map (overlaid_by titles controls) segments

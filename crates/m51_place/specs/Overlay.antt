-- How few bytes overlaid DATA takes, where placing finds one run of free bytes for it.
use Rattle.std.specs.Prelude.{◌≡◌, ◌↔◌, ℕ, ◌+◌, ◌-◌, ◌<◌, ◌≤◌, Bool, true, false, ◌&&◌, nat_eq, is_some, if◌then◌else◌}
use Rattle.std.specs.Prelude.{List, [], ◌∷◌, filter, slice_get, None, Some, Err, Ok}
use Rattle.std.specs.List.{All, sum_by}
use Rattle.std.specs.Option.{option_map_or}
use Rattle.m51_cells.specs.declared.kind.Kind.TheVariants.{Direct}
use Rattle.m51_cells.specs.declared.kind.Reloc.TheVariants.{Unit as UnitType}
use Rattle.m51_cells.specs.Extent.{extent_of}
use Rattle.m51_control.specs.declared.control.Control.{Control}
use Rattle.m51_control.specs.Controls.{AreKept}
use Rattle.m51_module.specs.declared.linked.Chain.{Chain}
use Rattle.m51_module.specs.declared.linked.Refusal.TheVariants.{L12}
use Rattle.m51_module.specs.declared.parts.ModuleParts.{ModuleParts}
use Rattle.m51_module.specs.declared.placed.Mark.TheVariants.{Overlaid}
use Rattle.m51_module.specs.Chains.{AreHeaviestOf, is_overlaid_data}
use Rattle.m51_module.specs.Validity.{IsValid}
use Rattle.m51_resolve.specs.declared.segment.JoinedSegment.{JoinedSegment}
use Rattle.m51_resolve.specs.Joining.{segments_of}
use Rattle.m51_resolve.specs.Rules.{AreResolved}
use Rattle.m51_graph.specs.declared.parts.GraphParts.{GraphParts}
use Rattle.m51_graph.specs.Graph.{IsArgument, IsGraph, IsOwn, joined_graph, UnitLiesUnder}
use Rattle.m51_graph.specs.Graphs.{graph_of}
use Rattle.m51_place.specs.declared.numbered.Numbered.{Numbered}
use Rattle.m51_place.specs.declared.placing.Placing.{Placing}
use Rattle.m51_place.specs.declared.ranked.Ranked.{Ranked}
use Rattle.m51_place.specs.Bases.{IsApart}
use Rattle.m51_place.specs.Bound.{IsWeight, covered_bytes, overlaid_bytes}
use Rattle.m51_place.specs.Fixed.{fixed_of, shared_extents}
use Rattle.m51_place.specs.Order.{order_of, own_at}
use Rattle.m51_place.specs.Placement.{place_after, placing_of}

-- each overlaid segment is DATA of type UNIT, and none is an argument segment
pub record OverlaysData (segments : List JoinedSegment) (g : GraphParts) : Type 0 where
  pub data_only : (number unit : ℕ) (j : JoinedSegment) → IsOwn g unit number → slice_get segments number ≡ Some j
      → (j.kind ≡ Direct) × (j.reloc ≡ UnitType)
  pub no_argument : (number unit : ℕ) → IsOwn g unit number → IsArgument g number → ⊥

-- none of the extents covers a bit of the byte of internal RAM
pub record IsOpen (extents : List Numbered) (byte : ℕ) : Type 0 where
  pub apart : All (λ (e : Numbered). IsApart (extent_of Direct byte 1) e.placed) extents

-- Of the bytes below 80H the open ones are one run: those from the low one on, before the high one. The run is empty
-- where the two are the same.
pub record AreOneRun (extents : List Numbered) (low high : ℕ) : Type 0 where
  pub order : low ≤ high
  pub most : high ≤ 0x80
  pub are : (byte : ℕ) → byte < 0x80 → IsOpen extents byte ↔ ((low ≤ byte) × (byte < high))

-- the segments of an order before the first that is overlaid
abbrev pub before_overlaid : List Ranked → List Ranked
before_overlaid [] = []
before_overlaid (t ∷ more) = if is_some t.own then [] else t ∷ before_overlaid more

-- the bytes that are open when the first overlaid segment of the order is placed, after fixed extents, are that run
pub record FindsRun (g : GraphParts) (fixed : List Numbered) (order : List Ranked) (low high : ℕ) : Type 0 where
  pub extents : List Numbered
  pub placed : place_after g fixed (before_overlaid order) ≡ Ok extents
  pub run : AreOneRun extents low high

-- Where overlaid segments are of DATA only and find one run, placing covers as few bytes by them as any sound layout
-- must: the weight. So the run has as many bytes.
abbrev pub PlacingIsTight : Type 0
PlacingIsTight = (modules : List ModuleParts) (controls : List (ℕ × Control)) (g : GraphParts) (p : Placing)
    (low high weight : ℕ) → All IsValid modules → AreResolved modules → AreKept controls → IsGraph g
    → graph_of modules controls ≡ Ok g → placing_of modules controls g ≡ Ok p → OverlaysData (segments_of modules) g
    → FindsRun g (fixed_of modules controls (segments_of modules)) (order_of g controls (segments_of modules)) low high
    → IsWeight p.layout weight
    → (covered_bytes p.layout ≡ weight) × (low ≤ high) × (weight ≤ high - low)

-- Under the same condition the bytes that overlaid DATA of any type covers are the weight too.
abbrev pub FigureIsWeight : Type 0
FigureIsWeight = (modules : List ModuleParts) (controls : List (ℕ × Control)) (g : GraphParts) (p : Placing)
    (low high weight : ℕ) → All IsValid modules → AreResolved modules → AreKept controls → IsGraph g
    → graph_of modules controls ≡ Ok g → placing_of modules controls g ≡ Ok p → OverlaysData (segments_of modules) g
    → FindsRun g (fixed_of modules controls (segments_of modules)) (order_of g controls (segments_of modules)) low high
    → IsWeight p.layout weight → overlaid_bytes p.layout ≡ weight

-- the overlaid segments of an order
abbrev pub overlaid_in : List Ranked → List Ranked
overlaid_in order = filter (λ (t : Ranked). is_some t.own) order

-- the bytes of overlaid DATA of type UNIT whose own unit passes a test, of joined segments of which the first has that
-- number
abbrev pub bytes_joined : GraphParts → (ℕ → Bool) → ℕ → List JoinedSegment → ℕ
bytes_joined g test number [] = 0
bytes_joined g test number (j ∷ more) =
    (if is_overlaid_data j.kind j.reloc Overlaid && option_map_or test (own_at g number) false then j.size else 0)
    + bytes_joined g test (number + 1) more

-- those of a unit
abbrev pub unit_weight : List JoinedSegment → GraphParts → ℕ → ℕ
unit_weight segments g unit = bytes_joined g (nat_eq unit) 0 segments

-- The weight of a graph: the bytes of its heaviest chains, and those of overlaid DATA whose unit lies under no root.
pub record IsWeightOf (segments : List JoinedSegment) (g : GraphParts) (weight : ℕ) : Type 0 where
  pub chains : List Chain
  pub heaviest : AreHeaviestOf (joined_graph g) (unit_weight segments g) chains
  pub free : ℕ → Bool
  pub tells : (unit : ℕ) → (free unit ≡ true) ↔ ((vector : ℕ) → UnitLiesUnder g vector unit → ⊥)
  pub is : weight ≡ sum_by (λ (c : Chain). c.bytes) chains + bytes_joined g free 0 segments

-- what placing has when it has placed the overlaid segments of an order after these extents
pub record PlacesOverlaid (g : GraphParts) (extents : List Numbered) (order : List Ranked) : Type 0 where
  pub located : List Numbered
  pub is : place_after g extents (overlaid_in order) ≡ Ok located

-- Where L9 does not come, and overlaid segments are of DATA only and find one run that has as many bytes as the weight,
-- there is a base for each: L12 comes for none of them.
abbrev pub OverlayFits : Type 0
OverlayFits = (modules : List ModuleParts) (controls : List (ℕ × Control)) (g : GraphParts) (low high weight : ℕ)
    → All IsValid modules → AreKept controls → IsGraph g → graph_of modules controls ≡ Ok g
    → shared_extents (fixed_of modules controls (segments_of modules)) ≡ None
    → OverlaysData (segments_of modules) g
    → (run : FindsRun g (fixed_of modules controls (segments_of modules))
    (order_of g controls (segments_of modules)) low high)
    → IsWeightOf (segments_of modules) g weight → low + weight ≤ high
    → PlacesOverlaid g run.extents (order_of g controls (segments_of modules))

-- if a base is found for each segment before the first overlaid one, the bytes that they and the fixed extents leave
-- open are that run
abbrev pub LeavesRun : GraphParts → List Numbered → List Ranked → ℕ → ℕ → Type 0
LeavesRun g fixed order low high =
    (extents : List Numbered) → place_after g fixed (before_overlaid order) ≡ Ok extents → AreOneRun extents low high

-- a base is found for each segment before the first overlaid one
pub record PlacesBefore (g : GraphParts) (fixed : List Numbered) (order : List Ranked) : Type 0 where
  pub extents : List Numbered
  pub is : place_after g fixed (before_overlaid order) ≡ Ok extents

-- placing answers L12 with the name of an overlaid segment
pub record RefusesOverlaid (modules : List ModuleParts) (controls : List (ℕ × Control)) (g : GraphParts) : Type 0 where
  pub number : ℕ
  pub unit : ℕ
  pub segment : JoinedSegment
  pub is : slice_get (segments_of modules) number ≡ Some segment
  pub own : IsOwn g unit number
  pub refused : placing_of modules controls g ≡ Err (L12 segment.title)

-- L9 does not come, a base is found for each segment before the overlaid ones, and the weight exceeds the length of the
-- run.
pub record ExceedsRun (g : GraphParts) (fixed : List Numbered) (order : List Ranked) (low high weight : ℕ)
    : Type 0 where
  pub shares : shared_extents fixed ≡ None
  pub before : PlacesBefore g fixed order
  pub exceeds : high - low < weight

-- Where overlaid segments are of DATA only and find one run, L12 names one of them exactly if the weight exceeds the
-- length of the run, and neither L9 comes nor L12 for a segment before them.
abbrev pub OverlayRefused : Type 0
OverlayRefused = (modules : List ModuleParts) (controls : List (ℕ × Control)) (g : GraphParts) (low high weight : ℕ)
    → All IsValid modules → AreKept controls → IsGraph g → graph_of modules controls ≡ Ok g
    → OverlaysData (segments_of modules) g
    → LeavesRun g (fixed_of modules controls (segments_of modules)) (order_of g controls (segments_of modules)) low high
    → IsWeightOf (segments_of modules) g weight
    → RefusesOverlaid modules controls g
    ↔ ExceedsRun g (fixed_of modules controls (segments_of modules)) (order_of g controls (segments_of modules))
    low high weight

-- the weight of a graph is that of each layout that placing gives over it
abbrev pub WeightsAgree : Type 0
WeightsAgree = (modules : List ModuleParts) (controls : List (ℕ × Control)) (g : GraphParts) (p : Placing) (weight : ℕ)
    → All IsValid modules → AreResolved modules → AreKept controls → IsGraph g → graph_of modules controls ≡ Ok g
    → placing_of modules controls g ≡ Ok p → IsWeightOf (segments_of modules) g weight → IsWeight p.layout weight

-- What the decisions in the definition of placing decide, and what its order is.
use Rattle.std.specs.Prelude.{◌≡◌, ◌≢◌, ◌↔◌, ℕ, true, List, MatchOption}
use Rattle.std.specs.List.{AllPairs}
use Rattle.std.specs.List.Sorted.{IsPermutation}
use Rattle.m51_cells.specs.declared.extent.Extent.{Extent}
use Rattle.m51_cells.specs.declared.kind.Kind.{Kind}
use Rattle.m51_cells.specs.declared.kind.Reloc.{Reloc}
use Rattle.m51_cells.specs.Extent.{Meet}
use Rattle.m51_control.specs.declared.control.Control.{Control}
use Rattle.m51_module.specs.declared.placed.Placed.{Placed}
use Rattle.m51_resolve.specs.declared.segment.JoinedSegment.{JoinedSegment}
use Rattle.m51_graph.specs.declared.parts.GraphParts.{GraphParts}
use Rattle.m51_graph.specs.Graph.{IsGraph, SegmentsConflict}
use Rattle.m51_place.specs.declared.ranked.Ranked.{Ranked}
use Rattle.m51_place.specs.Bases.{HasNoBase, IsLeastBase, least_base, share}
use Rattle.m51_place.specs.Conflicts.{in_conflict}
use Rattle.m51_place.specs.Order.{comes_before, order_of, ranked_from}

-- two extents are decided to share a cell exactly if they do
abbrev pub SharingIsMeeting : Type 0
SharingIsMeeting = (a b : Extent) → (share a b ≡ true) ↔ Meet a b

-- the least base is the least of all that are free; it is `None` exactly if no base is free
abbrev pub LeastIsLeast : Type 0
LeastIsLeast = (others : List Placed) (kind : Kind) (reloc : Reloc) (size : ℕ)
    → MatchOption (least_base others kind reloc size) (HasNoBase others kind reloc size)
    (λ base. IsLeastBase others kind reloc size base)

-- in a graph two different joined segments are decided to be in conflict exactly if they are
abbrev pub ConflictIsConflict : Type 0
ConflictIsConflict = (g : GraphParts) (s t : ℕ) → IsGraph g → s ≢ t
    → (in_conflict g s t ≡ true) ↔ SegmentsConflict g s t

-- the order holds each relocatable segment exactly once, and each before all later ones by its rank
pub record IsInOrder (g : GraphParts) (controls : List (ℕ × Control)) (segments : List JoinedSegment) : Type 0 where
  pub once : IsPermutation (ranked_from g controls 0 segments) (order_of g controls segments)
  pub rises : AllPairs (λ (t u : Ranked). comes_before t.rank u.rank ≡ true) (order_of g controls segments)

abbrev pub OrderRises : Type 0
OrderRises = (g : GraphParts) (controls : List (ℕ × Control)) (segments : List JoinedSegment)
    → IsInOrder g controls segments

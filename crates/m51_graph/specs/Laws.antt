-- What the decisions in the definition of a graph decide, and where an edge is.
use Rattle.std.specs.Prelude.{◌≡◌, ◌≢◌, ◌⊎◌, ◌↔◌, ℕ, ◌<◌, true, List, slice_get, Some}
use Rattle.std.specs.List.{Contains}
use Rattle.m51_cells.specs.declared.kind.Base.TheVariants.{Segment as InSegment}
use Rattle.m51_control.specs.declared.control.Control.{Control}
use Rattle.m51_control.specs.declared.control.Control.TheVariants.{Add, Cut}
use Rattle.m51_module.specs.declared.content.Fixup.{Fixup}
use Rattle.m51_module.specs.declared.parts.ModuleParts.{ModuleParts}
use Rattle.m51_module.specs.Walks.{Edges, HasEdge, Reaches}
use Rattle.m51_resolve.specs.Joining.{segments_of}
use Rattle.m51_graph.specs.declared.parts.GraphParts.{GraphParts}
use Rattle.m51_graph.specs.Drawing.{edges_of, fixup_edges}
use Rattle.m51_graph.specs.Graph.{UnitLiesUnder}
use Rattle.m51_graph.specs.Graphs.{lies_under}
use Rattle.m51_graph.specs.Leading.{leads}
use Rattle.m51_graph.specs.Levels.{IsLevel, level_of}
use Rattle.m51_graph.specs.Units.{named, unit_of, unit_titles}

-- over any edges one unit leads to another exactly if it reaches it
abbrev pub LeadingIsReaching : Type 0
LeadingIsReaching = (edges : Edges) (from to : ℕ) → (leads edges from to ≡ true) ↔ Reaches edges from to

-- in any parts a unit is decided to lie under a vector exactly if it lies under a root there
abbrev pub AboveIsUnder : Type 0
AboveIsUnder = (g : GraphParts) (vector unit : ℕ)
    → (lies_under (leads g.edges) g.roots vector unit ≡ true) ↔ UnitLiesUnder g vector unit

-- the level as a function is the number of edges of the longest walk that ends in the unit
abbrev pub LevelIsLongest : Type 0
LevelIsLongest = (edges : Edges) (unit level : ℕ)
    → IsLevel edges unit level → level < 65536 → level ≡ level_of edges unit

-- a fixup of a module is placed in the one unit and refers to the other, directly or by the public that resolves its
-- external
pub record RefersTo (modules : List ModuleParts) (u v : ℕ) : Type 0 where
  pub number : ℕ
  pub parts : ModuleParts
  pub is : slice_get modules number ≡ Some parts
  pub fixup : Fixup
  pub there : Contains parts.fixups fixup
  pub from : unit_of modules number (InSegment fixup.segment) ≡ Some u
  pub to : unit_of modules number fixup.target ≡ Some v

-- a control line adds the edge, as OVERLAY(u > v, w)
pub record IsAdded (titles : List (List ℕ)) (controls : List (ℕ × Control)) (u v : ℕ) : Type 0 where
  pub line : ℕ × Control
  pub there : Contains controls line
  pub first : List ℕ
  pub others : List (List ℕ)
  pub is : line.1 ≡ Add first others
  pub from : named titles first ≡ Some u
  pub other : List ℕ
  pub listed : Contains others other
  pub to : named titles other ≡ Some v

-- a control line cuts the edge, as OVERLAY(u ~ v, w)
pub record IsEdgeCut (titles : List (List ℕ)) (controls : List (ℕ × Control)) (u v : ℕ) : Type 0 where
  pub line : ℕ × Control
  pub there : Contains controls line
  pub first : List ℕ
  pub others : List (List ℕ)
  pub is : line.1 ≡ Cut first others
  pub from : named titles first ≡ Some u
  pub other : List ℕ
  pub listed : Contains others other
  pub to : named titles other ≡ Some v

-- a fixup or a line makes the edge, its ends differ, and no line cuts it
pub record IsDrawn (modules : List ModuleParts) (controls : List (ℕ × Control)) (u v : ℕ) : Type 0 where
  pub made : RefersTo modules u v ⊎ IsAdded (unit_titles (segments_of modules)) controls u v
  pub differ : u ≢ v
  pub uncut : IsEdgeCut (unit_titles (segments_of modules)) controls u v → ⊥

-- an edge leads from one unit to another exactly if it is drawn so
abbrev pub EdgesAre : Type 0
EdgesAre = (modules : List ModuleParts) (controls : List (ℕ × Control)) (u v : ℕ)
    → HasEdge (edges_of (unit_titles (segments_of modules)) controls (fixup_edges modules)) u v
    ↔ IsDrawn modules controls u v

-- Laws of conflicts: they are mutual, and do not depend on how segments are numbered.
use Rattle.std.specs.Prelude.{ℕ, ◌↔◌}
use Rattle.m51_module.specs.declared.parts.LayoutParts.{LayoutParts}
use Rattle.m51_module.specs.Plan.{layout_graph, ExtentsConflict}
use Rattle.m51_module.specs.Program.{ProgramGraph}
use Rattle.m51_module.specs.Walks.{HasEdge}

-- the two programs have the same units: the same edges lead between them, and the same ones are roots
pub record HaveSameUnits (g h : ProgramGraph) : Type 0 where
  pub edges : (from to : ℕ) → HasEdge g.edges from to ↔ HasEdge h.edges from to
  pub roots : (vector unit : ℕ) → g.IsRoot vector unit ↔ h.IsRoot vector unit

-- a segment of the first program is one of the second: it has the same owners, and both are overlaid or neither is
pub record IsSameSegment (g h : ProgramGraph) (s t : ℕ) : Type 0 where
  pub owners : (unit : ℕ) → g.Owns unit s ↔ h.Owns unit t
  pub overlaid : g.IsOverlaid s ↔ h.IsOverlaid t

-- Where one extent is in conflict with another, that one is with the first.
abbrev pub ConflictIsMutual : Type 0
ConflictIsMutual = (l : LayoutParts) (s t : ℕ) → ExtentsConflict l s t → ExtentsConflict l t s

-- Of two layouts with the same units, the second may have other numbers for extents: two extents that are the same in
-- both are in conflict by their numbers in the first exactly if they are by their numbers in the second. The same holds
-- of any two programs (proofs/Conflicts).
abbrev pub ConflictIsCarried : Type 0
ConflictIsCarried = (l m : LayoutParts) (renumbered : ℕ → ℕ) → HaveSameUnits (layout_graph l) (layout_graph m)
    → (s t : ℕ) → IsSameSegment (layout_graph l) (layout_graph m) s (renumbered s)
    → IsSameSegment (layout_graph l) (layout_graph m) t (renumbered t)
    → ExtentsConflict l s t ↔ ExtentsConflict m (renumbered s) (renumbered t)

-- The graph of a program: how its units lead to one another, and which units own its segments.
use Rattle.std.specs.Prelude.{ℕ}
use Rattle.m51_module.specs.Walks.{Edges}

-- Units and segments are numbers. IsRoot vector unit says that the unit begins at the vector, and is a root; Owns unit
-- segment, that the unit owns the segment; IsOverlaid segment, that the segment is overlaid.
pub record ProgramGraph : Type 1 where
  pub edges : Edges
  pub IsRoot : ℕ → ℕ → Type 0
  pub Owns : ℕ → ℕ → Type 0
  pub IsOverlaid : ℕ → Type 0

-- Which segments must not share a cell.
use Rattle.std.specs.Prelude.{◌≡◌, ◌≢◌, ℕ}
use Rattle.m51_module.specs.Program.{ProgramGraph}
use Rattle.m51_module.specs.Walks.{Reaches}
use Rattle.m51_module.specs.Roots.{LiesUnder}

-- The two units may be active together: they are one unit, one of them reaches the other, one lies under no root, so
-- that nothing is known of when it runs, or they lie under different roots.
pub data AreRelated (g : ProgramGraph) (one two : ℕ) : Type 0 where
  Same : one ≡ two → AreRelated g one two
  Before : Reaches g.edges one two → AreRelated g one two
  After : Reaches g.edges two one → AreRelated g one two
  FirstUnderNone : ((vector : ℕ) → LiesUnder g vector one → ⊥) → AreRelated g one two
  SecondUnderNone : ((vector : ℕ) → LiesUnder g vector two → ⊥) → AreRelated g one two
  UnderTwo : (x y : ℕ) → x ≢ y → LiesUnder g x one → LiesUnder g y two → AreRelated g one two

-- Two different segments are in conflict: one of them is not overlaid, or some owner of the one and some owner of the
-- other are related. Banks and reserves are not overlaid, so they are in conflict with everything.
pub data InConflict (g : ProgramGraph) (s t : ℕ) : Type 0 where
  FirstPlain : (g.IsOverlaid s → ⊥) → InConflict g s t
  SecondPlain : (g.IsOverlaid t → ⊥) → InConflict g s t
  Owners : (one two : ℕ) → g.Owns one s → g.Owns two t → AreRelated g one two → InConflict g s t

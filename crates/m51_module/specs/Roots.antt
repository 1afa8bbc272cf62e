-- The roots of a program, and the units under them.
use Rattle.std.specs.Prelude.{◌≡◌, ◌⊎◌, ℕ, List, [], ◌∷◌}
use Rattle.m51_module.specs.Program.{ProgramGraph}
use Rattle.m51_module.specs.Walks.{Reaches}

-- where the reset and the six interrupts begin
abbrev pub vectors : List ℕ
vectors = 0x00 ∷ 0x03 ∷ 0x0B ∷ 0x13 ∷ 0x1B ∷ 0x23 ∷ 0x2B ∷ []

-- the unit is the root at this vector, or that root reaches it; a root is counted by its vector
pub record LiesUnder (g : ProgramGraph) (vector unit : ℕ) : Type 0 where
  pub root : ℕ
  pub is_root : g.IsRoot vector root
  pub leads : (root ≡ unit) ⊎ Reaches g.edges root unit

use Rattle.m51_stackbound.proofs.Common.{ℕ, ◌<◌, At, IsCyclic}
use Rattle.m51_stackbound.proofs.cycling.first_cyclic.Given as goal

abbrev pub invariant-loop-address : goal.invariant-loop-address
invariant-loop-address l = (a : ℕ) → a < l.address → IsCyclic l.layout l.image (At a) → ⊥

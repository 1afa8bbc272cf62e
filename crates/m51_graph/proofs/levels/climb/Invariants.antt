use Rattle.m51_graph.proofs.Common.{◌≡◌, ◌-◌, length, sum, AreWalked}
use Rattle.m51_graph.proofs.levels.climb.Given as goal

abbrev pub invariant-climb : goal.invariant-climb
invariant-climb l = record { len : length l.levels ≡ length l.fn.levels; walked : AreWalked l.edges l.levels }

abbrev pub decreases-climb : goal.decreases-climb
decreases-climb l = 1000000 - sum l.levels

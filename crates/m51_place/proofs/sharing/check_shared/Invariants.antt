use Rattle.m51_place.proofs.Common.{drop, shared_after, shared_extents, take, ◌≡◌}
use Rattle.m51_place.proofs.sharing.check_shared.Given as goal

abbrev pub invariant-loop-index : goal.invariant-loop-index
invariant-loop-index l = shared_after (take l.index l.fixed) (drop l.index l.fixed) ≡ shared_extents l.fixed

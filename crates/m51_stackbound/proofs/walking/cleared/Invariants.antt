use Rattle.m51_stackbound.proofs.Common.{AreCleared, IsClosed}
use Rattle.m51_stackbound.proofs.walking.cleared.Given as goal

abbrev pub invariant-loop-start : goal.invariant-loop-start
invariant-loop-start l = IsClosed l.rows l.found × AreCleared l.rows l.cleared.items

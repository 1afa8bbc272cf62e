use Rattle.m51_stackbound.proofs.Common.{take, AreGreatest}
use Rattle.m51_stackbound.proofs.totals.total_of.Given as goal

abbrev pub invariant-loop-vector : goal.invariant-loop-vector
invariant-loop-vector l = AreGreatest l.depths (take l.vector-index l.vectors) l.greatest

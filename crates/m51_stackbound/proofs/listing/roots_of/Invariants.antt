use Rattle.m51_stackbound.proofs.Common.{take, AreRootRows}
use Rattle.m51_stackbound.proofs.listing.roots_of.Given as goal

abbrev pub invariant-loop-vector : goal.invariant-loop-vector
invariant-loop-vector l = AreRootRows l.layout l.depths l.nexts (take l.vector-index l.vectors) l.roots.items

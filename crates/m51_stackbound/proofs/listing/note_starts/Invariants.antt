use Rattle.m51_stackbound.proofs.Common.{take, AreStarts}
use Rattle.m51_stackbound.proofs.listing.note_starts.Given as goal

abbrev pub invariant-loop-point : goal.invariant-loop-point
invariant-loop-point l = AreStarts (take l.point-index l.points) l.starts

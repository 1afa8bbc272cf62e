use Rattle.m51_stackbound.proofs.Common.{take, AreNexts}
use Rattle.m51_stackbound.proofs.paths.note_all.Given as goal

abbrev pub invariant-loop-point : goal.invariant-loop-point
invariant-loop-point l = AreNexts l.layout l.image (take l.point-index l.points) l.depths l.nexts

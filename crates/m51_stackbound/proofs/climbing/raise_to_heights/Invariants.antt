use Rattle.m51_stackbound.proofs.Common.{take, IsClimbing}
use Rattle.m51_stackbound.proofs.climbing.raise_to_heights.Given as goal

abbrev pub invariant-loop-point : goal.invariant-loop-point
invariant-loop-point l = IsClimbing l.layout l.image (take l.point-index l.points) l.depths

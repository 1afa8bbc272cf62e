use Rattle.m51_stackbound.proofs.Common.{◌≡◌, take, calls_of}
use Rattle.m51_stackbound.proofs.calls.calls_in_order.Given as goal

abbrev pub invariant-loop-point : goal.invariant-loop-point
invariant-loop-point l = l.calls.items ≡ calls_of l.layout l.image (take l.point-index l.points)

use Rattle.m51_stackbound.proofs.Common.{depth_in}
use Rattle.m51_stackbound.specs.Nexts.{IsPassed}
use Rattle.m51_stackbound.proofs.paths.root_depth.Given as goal

abbrev pub invariant-loop-to : goal.invariant-loop-to
invariant-loop-to l = IsPassed l.nexts l.start l.last l.path.items

abbrev pub decreases-loop-to : goal.decreases-loop-to
decreases-loop-to l = depth_in l.depths l.last

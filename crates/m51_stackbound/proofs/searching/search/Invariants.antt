use Rattle.m51_stackbound.proofs.Common.{◌-◌}
use Rattle.m51_stackbound.proofs.Reaching.{IsSearching}
use Rattle.m51_stackbound.proofs.searching.search.Given as goal

abbrev pub invariant-loop-next : goal.invariant-loop-next
invariant-loop-next l = IsSearching l.layout l.image l.fn.firsts l.points l.next

abbrev pub decreases-loop-next : goal.decreases-loop-next
decreases-loop-next l = 1000001 - l.next

use Rattle.m51_stackbound.proofs.Common.{◌-◌, ◌≤◌, length}
use Rattle.m51_stackbound.proofs.CallRows.{IsWalking}
use Rattle.m51_stackbound.proofs.walking.walk.Given as goal

abbrev pub invariant-loop-next : goal.invariant-loop-next
invariant-loop-next l = (length l.fn.found ≤ l.next) × IsWalking l.rows l.from l.fn.found l.found l.next

abbrev pub decreases-loop-next : goal.decreases-loop-next
decreases-loop-next l = 65536 - l.next

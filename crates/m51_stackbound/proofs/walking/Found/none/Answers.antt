use Rattle.m51_stackbound.proofs.Common.{arith}
use Rattle.m51_stackbound.proofs.CallRows.{marked_none}
use Rattle.m51_stackbound.proofs.walking.Found.none.Goals as goal

pub invariant_of-result : goal.invariant_of-result
invariant_of-result c =
    rw c.new.ensures.items (marked_none 65536 c.in_ok-marks.marks.items (omega arith) c.in_ok-marks.ensures)

use Rattle.m51_stackbound.proofs.Common.{arith, Reset, point_at}
use Rattle.m51_stackbound.proofs.Reaching.{search_first, search_step, search_done}
use Rattle.m51_stackbound.proofs.searching.search.Goals as goal

pub loop-next-init : goal.loop-next-init
loop-next-init c = search_first _ _ _ c.requires

pub loop-next-preserved : goal.loop-next-preserved
loop-next-preserved c =
    search_step _ _ _ _ _ _ (point_at Reset 0 0) c.loop-next.invariant (omega arith) (omega arith)
    (rw c.as_slice.ensures at c.in_ok-visit.ensures)

pub returns : goal.returns
returns c = search_done _ _ _ _ _ c.loop-next.invariant (omega arith)

use Rattle.m51_stackbound.proofs.Common.{take_more}
use Rattle.m51_stackbound.proofs.CallRows.{goes_more}
use Rattle.m51_stackbound.proofs.walking.Found.note_all.Goals as goal

pub loop-start-preserved : goal.loop-start-preserved
loop-start-preserved c =
    rw (take_more c.args.starts.now c.loop-start.start-index 0 c.loop-start-test.true)
    (goes_more _ _ _ _ _ c.loop-start.invariant c.in_ok-note.ensures)

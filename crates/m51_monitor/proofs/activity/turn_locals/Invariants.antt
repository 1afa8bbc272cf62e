use Rattle.m51_monitor.proofs.Common.{turned_to, AreTurned, IsLocalAmong}
use Rattle.m51_monitor.proofs.activity.turn_locals.Given as goal

abbrev pub invariant-loop-index : goal.invariant-loop-index
invariant-loop-index l = AreTurned l.layout (IsLocalAmong l.holders l.locals l.index) (turned_to l.live) l.fn.store
    l.store

use Rattle.m51_monitor.proofs.Common.{sym}
use Rattle.m51_monitor.proofs.Framing.{ends_top, top_begins}
use Rattle.m51_monitor.proofs.monitor.Monitor.return_move.Goals as goal

pub unit-requires-clause-some : goal.unit-requires-clause-some
unit-requires-clause-some c =
    (top_begins _ c.in-Some.frame _ (rw c.deref.ensures.value at c.in-Some.ensures) c.self.invariant.0).1

pub unit-requires-clause-below : goal.unit-requires-clause-below
unit-requires-clause-below c =
    (top_begins _ c.in-Some.frame _ (rw c.deref.ensures.value at c.in-Some.ensures) c.self.invariant.0).0

pub returns-in-Some : goal.returns-in-Some
returns-in-Some c =
    rw (← c.self.view_is, c.returns_from.ensures, c.is_at.ensures, c.unit.ensures)
    (sym (ends_top c.self.inside.frames.items c.in-Some.frame c.self.inside.activity.units _ _ _ _
    (rw c.deref.ensures.value at c.in-Some.ensures)))

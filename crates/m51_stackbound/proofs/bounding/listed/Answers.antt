use Rattle.m51_stackbound.proofs.Common.{refl}
use Rattle.m51_stackbound.proofs.Covering.{handler_root}
use Rattle.m51_stackbound.proofs.Deciding.{covered_noted, lists, tables}
use Rattle.m51_stackbound.proofs.bounding.listed.Goals as goal

pub procs_of-requires-clause-covered : goal.procs_of-requires-clause-covered
procs_of-requires-clause-covered c =
    rw c.deref.ensures.value
    (covered_noted _ _ _ _ _ c.requires.points c.requires.depths c.requires.low c.in_ok-nexts.ensures
    c.requires.sound _ c.in_ok-starts.ensures)

pub roots_of-requires-clause-handlers : goal.roots_of-requires-clause-handlers
roots_of-requires-clause-handlers c = rw c.requires.vectors (handler_root _ c.requires.sound)

pub roots_of-requires-clause-tables : goal.roots_of-requires-clause-tables
roots_of-requires-clause-tables c =
    rw c.deref-2.ensures.value
    (tables _ _ _ _ _ c.requires.points c.requires.depths c.requires.low c.in_ok-nexts.ensures)

pub returns : goal.returns
returns c =
    lists _ _ _ _ _ c.requires.points c.requires.depths c.requires.low c.in_ok-nexts.ensures _ _ _ _ _
    c.in_ok-starts.ensures (rw c.deref.ensures.value at c.in_ok-procs.ensures)
    (rw (c.deref-2.ensures.value, c.requires.vectors) at c.in_ok-roots.ensures) refl c.of.ensures c.of-2.ensures

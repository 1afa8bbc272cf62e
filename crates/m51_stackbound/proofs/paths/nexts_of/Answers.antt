use Rattle.m51_stackbound.proofs.Common.{arith}
use Rattle.m51_stackbound.proofs.Ways.{nexts_none}
use Rattle.m51_stackbound.proofs.paths.nexts_of.Goals as goal

pub note_all-requires-clause-blank : goal.note_all-requires-clause-blank
note_all-requires-clause-blank c =
    rw c.deref_mut.ensures.value
    (nexts_none _ _ c.args.points.now _ 65537 _ (omega arith) c.in_ok-nexts.ensures)

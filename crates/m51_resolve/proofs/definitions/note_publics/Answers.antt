use Rattle.m51_resolve.proofs.Common.{arith}
use Rattle.m51_resolve.proofs.Tables.{note_more}
use Rattle.m51_resolve.proofs.definitions.note_publics.Goals as goal

pub loop-index-preserved : goal.loop-index-preserved
loop-index-preserved c =
    note_more _ _ _ _ _ c.args.publics.now _ _ _ c.loop-index.invariant (omega arith) c.index-publics-index.is
    c.definition_at-definition.ensures (λ name a. c.in_ok-note.ensures.0 name)

use Rattle.m51_resolve.proofs.Tables.{definitions_more}
use Rattle.m51_resolve.proofs.choosing.definitions_of.Goals as goal

pub loop-number-preserved : goal.loop-number-preserved
loop-number-preserved c =
    definitions_more _ (λ m. m.now) c.args.members.now _ _ _ _ _ c.loop-number.invariant
    c.loop-number-test.true c.index-members-number.is c.in_ok-note_asked.ensures c.publics.ensures.list

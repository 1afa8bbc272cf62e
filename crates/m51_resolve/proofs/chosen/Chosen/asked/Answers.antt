use Rattle.m51_resolve.proofs.Tables.{wanted_more}
use Rattle.m51_resolve.proofs.chosen.Chosen.asked.Goals as goal

pub loop-member-preserved : goal.loop-member-preserved
loop-member-preserved c =
    wanted_more (λ m. m.now) c.args.self.now c.args.members.now _ _ _ _ _ c.loop-member.invariant
    c.loop-member-test.true c.member-item.is c.in_ok-want_externals.ensures c.externals.ensures.list

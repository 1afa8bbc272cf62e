use Rattle.m51_chain.proofs.Common.{BoardState, IsPartyReport, List, family_of, subst}
use Rattle.m51_party.specs.Report.{boards_of}
use Rattle.m51_party.proofs.One.{only_family}
use Rattle.m51_chain.proofs.unrun.UnrunParty.run.Goals as goal

-- the report is that of the one family
pub returns-clause-report : goal.returns-clause-report
returns-clause-report g c =
    let boards = boards_of c.self.inside.party in
    let family = only_family boards c.args.steps c.self.invariant.fresh in
    let report = c.run.ensures.report boards (family_of boards c.args.steps) c.self.invariant family.is in
    subst (λ (bs : List BoardState).
    IsPartyReport bs c.args.steps (family_of bs c.args.steps) (g.S.Sink.state c.args.out.now).text
    (g.S.Sink.state c.run.new.out).text c.run.result) c.self.view_is report

use Rattle.m51_sim.proofs.Common.{sym, ap, ◌∙◌}
use Rattle.m51_sim.specs.SeparateMachine.{unwritten_in}
use Rattle.m51_sim.proofs.StoresRead.{segment_is, segment_below}
use Rattle.m51_sim.proofs.judging.unwritten.Goals as goal

pub returns-in-Some-clause-value : goal.returns-in-Some-clause-value
returns-in-Some-clause-value c =
    ap (unwritten_in c.args.cell c.args.at)
    (sym c.in-Some.is ∙ segment_is _ _ _ c.requires c.segment_at.ensures.some c.segment_at.ensures.only)

pub returns-in-Some-clause-text : goal.returns-in-Some-clause-text
returns-in-Some-clause-text c = (c.requires, segment_below _ _ _ c.in-Some.ensures.some)

pub returns-in-None-clause-value : goal.returns-in-None-clause-value
returns-in-None-clause-value c =
    ap (unwritten_in c.args.cell c.args.at)
    (sym c.in-None.is ∙ segment_is _ _ _ c.requires c.segment_at.ensures.some c.segment_at.ensures.only)

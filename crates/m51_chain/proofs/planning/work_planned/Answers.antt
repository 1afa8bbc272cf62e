use Rattle.m51_chain.proofs.PlannedRuns.{build_planned, work_outcome}
use Rattle.m51_chain.proofs.planning.work_planned.Goals as goal

pub returns-clause-outcome : goal.returns-clause-outcome
returns-clause-outcome c =
    work_outcome _ _ _ _ _ c.in_ok-target.ensures c.work.ensures.outcome c.planned.ensures.answer

pub returns-clause-run : goal.returns-clause-run
returns-clause-run c =
    build_planned c.args.job.now c.args.contents.now c.in_ok-target.target c.work.result c.planned.result
    c.in_ok-target.ensures c.work.ensures.run c.planned.ensures.answer c.planned.ensures.plain

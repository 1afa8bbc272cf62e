use Rattle.m51_chain.proofs.Common.{refl}
use Rattle.m51_chain.proofs.Built.{report_is}
use Rattle.m51_chain.proofs.reporting.report.Goals as goal

pub returns-clause-report : goal.returns-clause-report
returns-clause-report c =
    report_is c.args.found.linked c.args.job.now.hex c.args.found.script c.args.job.now.steps _ _ _
    c.in_ok-board.ensures c.in_ok-text.ensures c.in_ok-keeps.ensures

pub returns-clause-run : goal.returns-clause-run
returns-clause-run c = record { map = c.in_ok-text.ensures; started = c.in_ok-board.ensures; steps_are = refl }

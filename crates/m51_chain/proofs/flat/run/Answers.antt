use Rattle.m51_chain.proofs.Following.{flat_report_is}
use Rattle.m51_chain.proofs.flat.run.Goals as goal

pub returns : goal.returns
returns c = flat_report_is _ _ c.args.job.now.steps _ _ c.in_ok-board.ensures c.in_ok-text.ensures

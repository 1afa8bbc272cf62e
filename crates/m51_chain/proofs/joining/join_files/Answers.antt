use Rattle.m51_chain.proofs.Following.{came}
use Rattle.m51_chain.proofs.joining.join_files.Goals as goal

pub returns-in_err-boards : goal.returns-in_err-boards
returns-in_err-boards c = rw (came c.from_residual.result _ c.from_residual.ensures.1) c.in_err-boards.ensures

pub returns : goal.returns
returns c = rw c.in_ok-together.ensures c.in_ok-boards.ensures.is

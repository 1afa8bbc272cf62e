use Rattle.m51_chain.proofs.Following.{came}
use Rattle.m51_chain.proofs.Joined.{alone_refused, alone_started}
use Rattle.m51_chain.proofs.joining.board_alone.Goals as goal

pub returns : goal.returns
returns c = alone_started c.args.script.now c.in_ok-script.script c.args.parts c.in_ok-linked.linked _
    c.in_ok-script.ensures c.in_ok-linked.ensures.answer c.in_ok-board_of.ensures

pub returns-in_err-linked : goal.returns-in_err-linked
returns-in_err-linked c =
    rw (came c.from_residual.result _ c.from_residual.ensures.1)
    (alone_refused c.args.script.now c.args.parts _ c.in_err-linked.ensures.answer)

use Rattle.m51_chain.proofs.Common.{IsPartyWork, inputs_tree, party_files}
use Rattle.m51_chain.proofs.Accepted.{party_given}
use Rattle.m51_chain.proofs.Following.{came, file_refused}
use Rattle.m51_chain.proofs.Joined.{joined}
use Rattle.m51_chain.proofs.joining.party_boards.Goals as goal

pub returns-in_err-modules : goal.returns-in_err-modules
returns-in_err-modules c =
    rw (came c.from_residual.result _ c.from_residual.ensures.1)
    (file_refused (party_files c.args.job.now) c.args.contents.now (IsPartyWork c.args.job.now.steps) _
    (rw c.as_slice.ensures at c.in_err-modules.ensures))

pub returns : goal.returns
returns c =
    let inputs = inputs_tree c.in_ok-modules.field-0 in
    let answered = rw c.as_slice.ensures at c.in_ok-modules.ensures in
    let given = party_given c.args.job.now c.args.contents.now inputs c.requires.fit c.requires.contents
    answered in
    joined c.args.job.now c.args.contents.now inputs c.boards_alone.result answered given c.boards_alone.ensures

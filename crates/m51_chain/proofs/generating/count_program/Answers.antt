use Rattle.m51_chain.proofs.Common.{Err, Follows, IfSome_then, IsLinkedOr, Ok, sole_program}
use Rattle.m51_chain.proofs.Following.{came, unlinked}
use Rattle.m51_chain.proofs.generating.count_program.Goals as goal

pub returns : goal.returns
returns c =
    let is : IsLinkedOr (sole_program c.args.parts) (Ok c.in_ok-linked.linked) = c.in_ok-linked.ensures.answer in
    Follows is.0 _ is.1 is.2 c.in_ok-summary.ensures

pub returns-in_err-linked : goal.returns-in_err-linked
returns-in_err-linked c =
    let is : IsLinkedOr (sole_program c.args.parts) (Err c.in_err-linked.field-0.0) = c.in_err-linked.ensures.answer in
    rw (came c.from_residual.result _ c.from_residual.ensures.1)
    (IfSome_then _ is (λ o it. unlinked it))

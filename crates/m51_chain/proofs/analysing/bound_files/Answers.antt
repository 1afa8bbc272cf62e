use Rattle.m51_chain.specs.Analyses.{IsBounded, link_files}
use Rattle.m51_chain.proofs.Following.{came, files_refused, linked_comes}
use Rattle.m51_chain.proofs.analysing.bound_files.Goals as goal

pub returns : goal.returns
returns c =
    linked_comes (link_files c.args.job.now) c.args.contents.now (λ script linked. IsBounded linked.layout linked.image)
    c.in_ok-found.found _
    (rw c.as_slice.ensures at c.in_ok-found.ensures.answer) c.stack_bound.ensures

pub returns-in_err-found : goal.returns-in_err-found
returns-in_err-found c =
    rw (came c.from_residual.result _ c.from_residual.ensures.1)
    (files_refused (link_files c.args.job.now) c.args.contents.now
    (λ script linked. IsBounded linked.layout linked.image) _
    (rw c.as_slice.ensures at c.in_err-found.ensures.answer))

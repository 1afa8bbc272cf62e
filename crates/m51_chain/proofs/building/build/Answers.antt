use Rattle.m51_chain.proofs.Common.{build_files}
use Rattle.m51_chain.specs.Programs.{IsReport}
use Rattle.m51_chain.proofs.Following.{came, files_refused, follows}
use Rattle.m51_chain.proofs.PlannedRuns.{run_of_files}
use Rattle.m51_chain.proofs.building.build.Goals as goal

pub returns-clause-outcome : goal.returns-clause-outcome
returns-clause-outcome c =
    let job = c.args.job.now in
    follows (build_files job) c.args.contents.now (λ script linked. IsReport linked job.hex script job.steps)
    c.in_ok-found.found _
    (rw c.as_slice.ensures at c.in_ok-found.ensures.answer) c.in_ok-report.ensures.report

pub returns-clause-run : goal.returns-clause-run
returns-clause-run c =
    run_of_files c.args.job.now c.args.contents.now c.in_ok-found.found _ _
    (rw c.as_slice.ensures at c.in_ok-found.ensures.answer) c.in_ok-report.ensures.run

pub returns-in_err-found-clause-outcome : goal.returns-in_err-found-clause-outcome
returns-in_err-found-clause-outcome c =
    let job = c.args.job.now in
    rw (came c.from_residual.result _ c.from_residual.ensures.1)
    (files_refused (build_files job) c.args.contents.now (λ script linked. IsReport linked job.hex script job.steps) _
    (rw c.as_slice.ensures at c.in_err-found.ensures.answer))

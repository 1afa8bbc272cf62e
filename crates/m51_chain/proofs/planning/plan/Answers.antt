use Rattle.m51_chain.proofs.Common.{inl, inr}
use Rattle.std.proofs.lemmas.Result.{IfOk-weaker}
use Rattle.m51_chain.specs.Due.{Asked}
use Rattle.m51_chain.proofs.FitJobs.{asked_fit}
use Rattle.m51_chain.proofs.planning.plan.Goals as goal

pub plan_job-requires : goal.plan_job-requires
plan_job-requires g c = record { fit = asked_fit _ _ c.in-Ok.ensures }

pub returns-in-Ok-clause-due : goal.returns-in-Ok-clause-due
returns-in-Ok-clause-due g c =
    IfOk-weaker c.plan_job.result _ _ (λ plan it. Asked _ c.in-Ok.ensures it) c.plan_job.ensures.due

pub returns-in-Ok-clause-reads : goal.returns-in-Ok-clause-reads
returns-in-Ok-clause-reads g c =
    elim (c.plan_job.ensures.reads) [
      | inl same ↦ inl same
      | inr read ↦ inr (record { job = _; asked = c.in-Ok.ensures; few = read.0; reads = read.1 })
    ]

-- Plans for work, and for what the shelf did; what is planned for a build that keeps no HEX.
use Rattle.m51_chain.proofs.Common.{AreGiven, AreLinked, AreRead, Bool, Err, Finished, IsOutcome, Job, LinkedFiles}
use Rattle.m51_chain.proofs.Common.{List, None, Ok, Option, ReadAt, Result, Some, Status, Stop, ap, build_files, false}
use Rattle.m51_chain.proofs.Common.{refl, subst, sym, true, ℕ, ◌∙◌, ◌≡◌}
use Rattle.m51_shelf.specs.Shelf.{Files}
use Rattle.m51_chain.specs.Outcome.{Answer, Comes, named_answer, outcome_of, status_by, status_if, answer_of}
use Rattle.m51_chain.specs.Outcome.{flat_run_of, refused, run_of, status_at, status_of}
use Rattle.m51_chain.specs.Expected.{HasOutcome, MayKeep}
use Rattle.m51_jobs.specs.Files.{name_kept, names_read}
use Rattle.std.specs.Prelude.{IfOk}
use Rattle.m51_cells.specs.declared.event.Event.{Event}
use Rattle.m51_cells.specs.declared.memory.NoMemory.{NoMemory}
use Rattle.m51_jobs.specs.declared.job.BuildJob.{BuildJob}
use Rattle.m51_chain.specs.declared.work.Plan.{Plan}
use Rattle.m51_chain.specs.BuildPlans.{EndsInRun, IfBuild, IsBuildPlanned, IsBuildRun, IsBuildPlan, IsBuildWork}
use Rattle.m51_chain.specs.BuildPlans.{IsPlannedAlike, IsRefusal, IsRunFor, IsRunPlan}
use Rattle.m51_chain.specs.Due.{IsPlanned}
use Rattle.m51_chain.specs.declared.work.Finish.{Finish}
use Rattle.m51_chain.specs.declared.work.Reason.{Reason}
use Rattle.m51_jobs.specs.declared.job.Job.TheVariants as jobs
use Rattle.m51_chain.specs.declared.work.Plan.TheVariants as plan
use Rattle.m51_chain.specs.declared.work.Finish.TheVariants as ending
use Rattle.m51_chain.specs.declared.work.Reason.TheVariants as reason
use Rattle.m51_chain.specs.declared.work.Stop.TheVariants as stop
use Rattle.m51_chain.specs.declared.status.Status.TheVariants as status

-- ---- statuses

-- what is so of both statuses of a run is so of the status of an ending
module _ (P : Status → Type 0) (ran : P status.Ran) (event : P status.Event) where
  by_event : (ended : Option Event) → P (status_by ended)
  by_event None = ran
  by_event (Some it) = event

  by_any : (ended : Bool) → P (status_if ended)
  by_any false = ran
  by_any true = event

  at_end : (e : Finish) → P (status_at e)
  unfolding status_at
  at_end ending.Ran = ran
  at_end ending.Event = event
  at_end (ending.Run board steps) = by_event (run_of board steps).event
  at_end (ending.FlatRun board steps) = by_event (flat_run_of board steps).event
  at_end (ending.Party boards steps) = by_any _

may_refuse : (why : Reason) → MayKeep (status_of why) None
may_refuse reason.Source = refl
may_refuse other = refl

refuses : (why : Reason) → IsRefusal (status_of why)
refuses reason.Source = tt
refuses other = tt

module _ (Ends : List ℕ → Finish → Type 0) where
  by_status : (it : Plan) → IsRefusal (answer_of it).status → IsRunPlan Ends it
  by_status (plan.Refused told text) h = h
  by_status (plan.Accepted keeps text end) h = absurd (at_end (λ s. IsRefusal s → ⊥) (λ h. h) (λ h. h) end h)

  refused_by : (it : Plan) (answer : Answer) → answer_of it ≡ answer → IsRefusal answer.status → IsRunPlan Ends it
  refused_by it answer is h = by_status it (rw is h)

-- ---- what is planned for work

module _ (job : Job) (contents : List (List ℕ)) (name : Option (List ℕ)) where
  -- the plan for work has the outcome of the work
  pub work_outcome : (work : Result Finished Stop) (result : Result Plan NoMemory) → name ≡ name_kept job
      → Comes (IsOutcome job contents) work → IsPlanned name work result
      → IfOk result (λ plan. HasOutcome job contents (answer_of plan))
  work_outcome work (Err none) is comes planned = tt
  work_outcome (Ok work) (Ok it) is comes planned = record {
    outcome = outcome_of work;
    work = comes;
    keeps = at_end (λ s. MayKeep s work.keeps) tt tt work.ending;
    is = planned ∙ ap (λ n. named_answer n (outcome_of work)) is;
  }
  work_outcome (Err (stop.Refused why text)) (Ok it) is comes planned = record {
    outcome = refused why text;
    work = comes;
    keeps = may_refuse why;
    is = planned ∙ ap (λ n. named_answer n (refused why text)) is;
  }
  work_outcome (Err stop.Memory) (Ok it) is comes planned = absurd planned

pub run_weaker : (P Q : List ℕ → Finish → Type 0) → ((text : List ℕ) (end : Finish) → P text end → Q text end)
    → (it : Plan) → IsRunPlan P it → IsRunPlan Q it
run_weaker P Q on (plan.Refused told text) h = h
run_weaker P Q on (plan.Accepted keeps text end) h = (h.0, on text end h.1)

-- ---- builds among jobs

any_build : (job : Job) (Is : BuildJob → Type 0) → ((build : BuildJob) → job ≡ jobs.Build build → Is build)
    → IfBuild job Is
any_build (jobs.Build build) Is on = on build refl
any_build other Is on = tt

-- the run of a linked program is that of its files
pub run_of_files : (job : BuildJob) (contents : List (List ℕ)) (found : LinkedFiles) (text : List ℕ) (end : Finish)
    → AreLinked (build_files job) contents found → EndsInRun found.linked found.script job.steps text end
    → IsBuildRun job contents text end
run_of_files job contents found text end are run = record {
  inputs = are.inputs;
  given = are.given;
  linked = found.linked;
  program = are.program;
  run = subst (λ script. EndsInRun found.linked script job.steps text end) are.script run;
}

plan_of_work : (build : BuildJob) (contents : List (List ℕ)) (name : Option (List ℕ)) (made : Result Finished Stop)
    (result : Result Plan NoMemory) → name ≡ None → IfOk made (λ work. IsBuildRun build contents work.text work.ending)
    → IsPlanned name made result → (name ≡ None → IsPlannedAlike made result)
    → IfOk result (IsRunPlan (IsBuildRun build contents))
plan_of_work build contents name made (Err out) none is planned plain = tt
plan_of_work build contents name (Ok work) (Ok it) none is planned plain =
    subst (λ (t : Plan). IsRunPlan (IsBuildRun build contents) t) (sym (plain none)) (refl, is)
plan_of_work build contents name (Err (stop.Refused why text)) (Ok it) none is planned plain =
    refused_by (IsBuildRun build contents) it (named_answer name (refused why text)) planned (refuses why)
plan_of_work build contents name (Err stop.Memory) (Ok it) none is planned plain = absurd planned

-- what is planned for the work of a job
pub build_planned : (job : Job) (contents : List (List ℕ)) (name : Option (List ℕ)) (made : Result Finished Stop)
    (result : Result Plan NoMemory) → name ≡ name_kept job → IfOk made (IsBuildWork job contents)
    → IsPlanned name made result → (name ≡ None → IsPlannedAlike made result)
    → IfOk result (IsBuildPlanned job contents)
build_planned job contents name made (Err out) is worked planned plain = tt
build_planned job contents name made (Ok it) is worked planned plain =
    any_build job (λ build. build.hex ≡ None → IsRunPlan (IsBuildRun build contents) it) (λ build same no_hex.
    plan_of_work build contents name made (Ok it) (is ∙ ap name_kept same ∙ no_hex)
    (subst (λ (j : Job). IfOk made (IsBuildWork j contents)) same worked) planned plain)

-- ---- what the shelf did

module _ (job : Job) (holds : Option Files) (before after : ReadAt) where
  -- the files were read
  pub build_task : (contents : List (List ℕ)) (result : Result Plan NoMemory)
      → AreRead holds (names_read job) contents → AreGiven (names_read job) before after contents
      → IfOk result (IsBuildPlanned job contents) → IfOk result (IsBuildPlan job holds before after)
  build_task contents (Err out) read given planned = tt
  build_task contents (Ok it) read given planned =
      any_build job (λ build. build.hex ≡ None → IsRunPlan (IsRunFor build holds before after) it)
      (λ build same no_hex.
      run_weaker (IsBuildRun build contents) (IsRunFor build holds before after)
      (λ text end run. record {
        contents = contents;
        read = rw same at read;
        given = subst (λ (j : Job). AreGiven (names_read j) before after contents) same given;
        run = run;
      }) it
      ((subst (λ (j : Job). IsBuildPlanned j contents it) same planned) no_hex))

  -- it is refused
  pub build_refused : (result : Result Plan NoMemory) (answer : Answer) → IfOk result (λ it. answer_of it ≡ answer)
      → IsRefusal answer.status → IfOk result (IsBuildPlan job holds before after)
  build_refused (Err out) answer is h = tt
  build_refused (Ok it) answer is h =
      any_build job (λ build. build.hex ≡ None → IsRunPlan (IsRunFor build holds before after) it)
      (λ build same no_hex. refused_by (IsRunFor build holds before after) it answer is h)

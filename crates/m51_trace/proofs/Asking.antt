-- What the arguments ask for, by the steps of the top call.
use Rattle.std.proofs.Common.{◌≡◌, ◌∙◌, Bool, true, false, cond, List, ℕ, Option, Some, None, refl, ap, sym}
use Rattle.std.specs.Prelude.{IfSome, is_none, option_and_then}
use Rattle.std.proofs.lemmas.Option.{none-some}
use Rattle.m51_args.specs.Jobs.{job_of}
use Rattle.m51_chain.specs.declared.work.Plan.{Plan}
use Rattle.m51_chain.specs.BuildPlans.{IsBuildPlan, IsRunFor, IsRunPlan}
use Rattle.m51_chain.proofs.PlannedRuns.{run_weaker}
use Rattle.m51_jobs.specs.declared.job.BuildJob.{BuildJob}
use Rattle.m51_jobs.specs.declared.job.Job.{Job}
use Rattle.m51_jobs.specs.declared.job.Job.TheVariants as jobs
use Rattle.m51_shelf.specs.Shelf.{Files}
use Rattle.m51_shelf.specs.States.{ReadAt}
use Rattle.m51_steps.specs.declared.shape.Shape.{Shape}
use Rattle.m51_chain.specs.declared.work.Plan.TheVariants as plan
use Rattle.m51_chain.specs.declared.work.Finish.{Finish}
use Rattle.m51_chain.specs.declared.work.Finish.TheVariants as ending
use Rattle.m51_chain.specs.Outcome.{Answer, refusal}
use Rattle.m51_trace.specs.declared.requests.Chosen.{Chosen}
use Rattle.m51_trace.specs.Requests.{Request, build_words, choice_of, is_run, request_by, request_of}
use Rattle.m51_trace.specs.Traces.{IsRun, OfEnding, OfPlan, run_answer}

-- what the words of a choice ask for
abbrev pub asked_for : List (List ℕ) → Chosen → Request
asked_for words c = record { shape = c.shape; words = build_words words c.count }

request_at : (words : List (List ℕ)) (c : Chosen) (asked : List (List ℕ)) (is : Bool) → choice_of words ≡ Some c
    → asked ≡ build_words words c.count → is ≡ is_run (job_of asked)
    → request_of words ≡ cond is (Some (asked_for words c)) None
request_at words c asked is choice same run =
    ap (option_and_then (request_by words)) choice
    ∙ ap (λ (b : Bool). cond b (Some (asked_for words c)) None)
    (ap (λ (ws : List (List ℕ)). is_run (job_of ws)) (sym same) ∙ sym run)

-- the choice is made, and its words ask for a run
pub asks : (words : List (List ℕ)) (c : Chosen) (asked : List (List ℕ)) (is : Bool) → choice_of words ≡ Some c
    → asked ≡ build_words words c.count → is ≡ is_run (job_of asked) → is ≡ true
    → request_of words ≡ Some (asked_for words c)
asks words c asked is choice same run held = request_at words c asked true choice same (sym held ∙ run)

-- they ask for none
pub asks_nothing : (words : List (List ℕ)) (c : Chosen) (asked : List (List ℕ)) (is : Bool)
    → choice_of words ≡ Some c → asked ≡ build_words words c.count → is ≡ is_run (job_of asked) → is ≡ false
    → request_of words ≡ None
asks_nothing words c asked is choice same run held = request_at words c asked false choice same (sym held ∙ run)

pub no_choice : (words : List (List ℕ)) → choice_of words ≡ None → request_of words ≡ None
no_choice words choice = ap (option_and_then (request_by words)) choice

-- faulty arguments are no request
pub not_faulty : {X : Type 0} (words : List (List ℕ)) (r : Request) → request_of words ≡ Some r
    → request_of words ≡ None → X
not_faulty words r is faulty = absurd (none-some r (sym faulty ∙ is))

-- ---- what is planned for them

-- the words are those of a build that keeps no HEX, and this is planned for it
pub record IsPlannedRun (asked : List (List ℕ)) (holds : Option Files) (before after : ReadAt) (it : Plan)
    : Type 0 where
  pub job : BuildJob
  pub is : job_of asked ≡ Some (jobs.Build job)
  pub run : IsRunPlan (IsRunFor job holds before after) it

no_name : (hex : Option (List ℕ)) → is_none hex ≡ true → hex ≡ None
no_name None h = refl
no_name (Some name) h = absurd (cc h)

planned_for : (asked : List (List ℕ)) (job : Option Job) (holds : Option Files) (before after : ReadAt) (it : Plan)
    → job_of asked ≡ job → is_run job ≡ true → IfSome job (λ job. IsBuildPlan job holds before after it)
    → IsPlannedRun asked holds before after it
planned_for asked (Some (jobs.Build job)) holds before after it is run planned =
    record { job = job; is = is; run = planned (no_name job.hex run) }
planned_for asked other holds before after it is run planned = absurd (cc run)

pub planned_run : (asked : List (List ℕ)) (holds : Option Files) (before after : ReadAt) (it : Plan) (is : Bool)
    → is ≡ is_run (job_of asked) → is ≡ true
    → IfSome (job_of asked) (λ job. IsBuildPlan job holds before after it)
    → IsPlannedRun asked holds before after it
planned_run asked holds before after it is run held planned =
    planned_for asked (job_of asked) holds before after it refl (sym run ∙ held) planned

-- its run is a run
ends_so : (job : BuildJob) (holds : Option Files) (before after : ReadAt) (text : List ℕ) (end : Finish)
    → IsRunFor job holds before after text end → IsRun end
ends_so job holds before after text (ending.Run board steps) h = tt
ends_so job holds before after text other h = absurd h.run.run

pub is_run_plan : (asked : List (List ℕ)) (holds : Option Files) (before after : ReadAt) (it : Plan)
    → IsPlannedRun asked holds before after it → IsRunPlan (λ text end. IsRun end) it
is_run_plan asked holds before after it h =
    run_weaker (IsRunFor h.job holds before after) (λ text end. IsRun end) (ends_so h.job holds before after) it h.run

-- what is so of the answer
of_ending : (shape : Shape) (text : List ℕ) (end : Finish) (P Q : Answer → Type 0) → ((a : Answer) → P a → Q a)
    → OfEnding shape text end P → OfEnding shape text end Q
of_ending shape text (ending.Run board steps) P Q on h = on (run_answer shape text board steps) h
of_ending shape text other P Q on h = h

pub of_plan : (shape : Shape) (it : Plan) (P Q : Answer → Type 0) → ((a : Answer) → P a → Q a)
    → OfPlan shape it P → OfPlan shape it Q
of_plan shape (plan.Refused told text) P Q on h = on (refusal told text) h
of_plan shape (plan.Accepted None text end) P Q on h = of_ending shape text end P Q on h
of_plan shape (plan.Accepted (Some file) text end) P Q on h = h

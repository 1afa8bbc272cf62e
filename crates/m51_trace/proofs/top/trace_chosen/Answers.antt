use Rattle.std.proofs.Common.{◌≡◌, ◌∙◌, ℕ, List, Some, ap, subst}
use Rattle.m51_args.specs.Jobs.{job_of}
use Rattle.m51_jobs.specs.declared.job.Job.TheVariants.{Build}
use Rattle.m51_jobs.specs.Texts.{texts}
use Rattle.m51_trace.specs.Requests.{build_words}
use Rattle.m51_trace.specs.Traces.{Asked, Faulty, IsAnswered}
use Rattle.m51_trace.proofs.Asking.{asked_for, asks, asks_nothing, is_run_plan, not_faulty, of_plan, planned_run}
use Rattle.m51_trace.proofs.top.trace_chosen.Goals as goal

pub perform-requires-clause-run : goal.perform-requires-clause-run
perform-requires-clause-run g c =
    is_run_plan _ _ _ _ c.in_ok-plan.plan
    (planned_run _ _ _ _ c.in_ok-plan.plan _ c.in_ok-has_run.ensures c.if-has_run.true c.in_ok-plan.ensures.run)

pub returns-then-has_run-clause-traced : goal.returns-then-has_run-clause-traced
returns-then-has_run-clause-traced g c =
    let words = texts c.args.words.now in
    let same : texts c.as_slice-asked.result.now ≡ build_words words c.args.chosen.now.count =
    ap texts c.as_slice-asked.ensures.value ∙ c.in_ok-all.ensures in
    let planned = planned_run _ _ _ _ c.in_ok-plan.plan _ c.in_ok-has_run.ensures c.if-has_run.true
    c.in_ok-plan.ensures.run in
    Asked (asked_for words c.args.chosen.now) planned.job c.in_ok-plan.plan
    (asks words _ _ _ c.requires same c.in_ok-has_run.ensures c.if-has_run.true)
    (subst (λ (ws : List (List ℕ)). job_of ws ≡ Some (Build planned.job)) same planned.is)
    (rw same at c.in_ok-plan.ensures.due)
    planned.run
    (of_plan c.args.chosen.now.shape c.in_ok-plan.plan _
    (λ answer. IsAnswered answer (g.S.Sink.state c.args.out.now) (g.S.Sink.state c.perform.new.out) _)
    (λ answer it. record { result = c.perform.result; status = c.status_told.ensures; text = it })
    c.perform.ensures.written)

pub returns-clause-traced : goal.returns-clause-traced
returns-clause-traced g c =
    let words = texts c.args.words.now in
    let same : texts c.as_slice-asked.result.now ≡ build_words words c.args.chosen.now.count =
    ap texts c.as_slice-asked.ensures.value ∙ c.in_ok-all.ensures in
    Faulty (asks_nothing words _ _ _ c.requires same c.in_ok-has_run.ensures c.if-has_run.false)
    (record {
      result = c.refuse.result;
      status = c.status_told-else-has_run.ensures;
      text = c.refuse.ensures.written;
    })

pub returns-then-has_run-clause-usage : goal.returns-then-has_run-clause-usage
returns-then-has_run-clause-usage g c =
    let words = texts c.args.words.now in
    let same : texts c.as_slice-asked.result.now ≡ build_words words c.args.chosen.now.count =
    ap texts c.as_slice-asked.ensures.value ∙ c.in_ok-all.ensures in
    not_faulty words (asked_for words c.args.chosen.now)
    (asks words _ _ _ c.requires same c.in_ok-has_run.ensures c.if-has_run.true)

pub returns-in_err-plan-clause-usage : goal.returns-in_err-plan-clause-usage
returns-in_err-plan-clause-usage g c =
    let words = texts c.args.words.now in
    let same : texts c.as_slice-asked.result.now ≡ build_words words c.args.chosen.now.count =
    ap texts c.as_slice-asked.ensures.value ∙ c.in_ok-all.ensures in
    not_faulty words (asked_for words c.args.chosen.now)
    (asks words _ _ _ c.requires same c.in_ok-has_run.ensures c.if-has_run.true)

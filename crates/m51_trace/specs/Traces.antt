-- What the top call answers: what `build` would, with the trace of the run in the place of its record.
use Rattle.std.specs.Prelude.{◌≡◌, ℕ, List, ◌++◌, codes, Option, Some, None, Result}
use Rattle.m51_args.specs.Jobs.{job_of}
use Rattle.m51_chain.specs.BuildPlans.{IsRunFor, IsRunPlan}
use Rattle.m51_chain.specs.Due.{IsDue}
use Rattle.m51_jobs.specs.declared.job.BuildJob.{BuildJob}
use Rattle.m51_jobs.specs.declared.job.Job.TheVariants.{Build}
use Rattle.m51_shelf.specs.declared.sink.Failed.{Failed}
use Rattle.m51_shelf.specs.Shelf.{Files}
use Rattle.m51_shelf.specs.States.{ReadAt}
use Rattle.m51_shelf.specs.Writing.{SinkState}
use Rattle.m51_sim.specs.Boards.{BoardState}
use Rattle.m51_steps.specs.declared.shape.Shape.{Shape}
use Rattle.m51_steps.specs.Traced.{traced_text}
use Rattle.m51_chain.specs.declared.work.Plan.{Plan}
use Rattle.m51_chain.specs.declared.work.Plan.TheVariants as plan
use Rattle.m51_chain.specs.declared.status.Status.{Status}
use Rattle.m51_chain.specs.declared.status.Status.TheVariants as status
use Rattle.m51_chain.specs.declared.work.Finish.{Finish}
use Rattle.m51_chain.specs.declared.work.Finish.TheVariants as ending
use Rattle.m51_chain.specs.Carried.{IsTextWritten, status_told}
use Rattle.m51_chain.specs.Outcome.{Answer, answer_of, refusal, run_of, status_by}
use Rattle.m51_trace.specs.Requests.{Request, request_of}

-- faulty arguments
abbrev pub usage_text : List ℕ
usage_text =
    codes "usage: m51-trace [--ram] [--from A] [--to B] [--control F] [--script F] --steps N FILE..\n"
    ++ codes "       m51-trace --counts [--control F] [--script F] --steps N FILE..\n"

abbrev pub usage_answer : Answer
usage_answer = refusal status.Usage usage_text

-- the answer for a run that is accepted: the text before the run, and its trace
abbrev pub run_answer : Shape → List ℕ → BoardState → ℕ → Answer
run_answer shape text board steps = record {
  status = status_by (run_of board steps).event;
  text = text ++ traced_text shape board steps;
  keeps = None;
}

-- work ends with the run of a board: that of a build does
abbrev pub IsRun : Finish → Type 0
IsRun (ending.Run board steps) = Unit {0}
IsRun other = ⊥

-- it is so of the answer for an ending, which is a run
abbrev pub OfEnding : Shape → List ℕ → Finish → (Answer → Type 0) → Type 0
OfEnding shape text (ending.Run board steps) Is = Is (run_answer shape text board steps)
OfEnding shape text other Is = ⊥

-- it is so of the answer for a plan: a refusal stays as it is, and a run has its trace; a build that keeps no HEX has
-- no other plan
abbrev pub OfPlan : Shape → Plan → (Answer → Type 0) → Type 0
OfPlan shape (plan.Refused told text) Is = Is (refusal told text)
OfPlan shape (plan.Accepted None text end) Is = OfEnding shape text end Is
OfPlan shape (plan.Accepted (Some file) text end) Is = ⊥

-- an answer's text is written whole, or a write failed after a prefix of it
pub record IsAnswered (answer : Answer) (before after : SinkState) (told : Status) : Type 0 where
  pub result : Result Status Failed
  pub status : told ≡ status_told result
  pub text : IsTextWritten answer.status answer.text before after result

-- How the top call ends: the arguments are faulty; or what is written is the answer for a plan that is due for the
-- words of `build`, for the files and for what the shelf did; or memory ran out, and nothing is written. The plan is a
-- refusal, or it is the run of the program that the files give: so each build that is accepted is traced.
pub data IsTraced (words : List (List ℕ)) (holds : Option Files) (before after : ReadAt)
    (sink_before sink_after : SinkState) (told : Status) : Type 0 where
  Faulty : request_of words ≡ None → IsAnswered usage_answer sink_before sink_after told
      → IsTraced words holds before after sink_before sink_after told
  Asked : (request : Request) (job : BuildJob) (due : Plan) → request_of words ≡ Some request
      → job_of request.words ≡ Some (Build job)
      → IsDue request.words holds before after (answer_of due)
      → IsRunPlan (IsRunFor job holds before after) due
      → OfPlan request.shape due (λ answer. IsAnswered answer sink_before sink_after told)
      → IsTraced words holds before after sink_before sink_after told
  NoMemory : told ≡ status.Memory → sink_after ≡ sink_before
      → IsTraced words holds before after sink_before sink_after told

-- What is planned for a build that keeps no HEX: a refusal, or the run of a started board.
use Rattle.std.specs.Prelude.{◌≡◌, ℕ, List, Option, None, Result, Ok}
use Rattle.m51_cells.specs.declared.memory.NoMemory.{NoMemory}
use Rattle.m51_inputs.specs.Inputs.{InputsTree}
use Rattle.m51_jobs.specs.declared.job.BuildJob.{BuildJob}
use Rattle.m51_jobs.specs.declared.job.Job.{Job}
use Rattle.m51_jobs.specs.declared.job.Job.TheVariants.{Build}
use Rattle.m51_jobs.specs.Files.{names_read}
use Rattle.m51_linker.specs.declared.linked.Linked.{Linked}
use Rattle.m51_script.specs.declared.script.Script.{Script}
use Rattle.m51_shelf.specs.Shelf.{Files}
use Rattle.m51_shelf.specs.States.{ReadAt}
use Rattle.m51_sim.specs.Boards.{BoardState, IsStarted}
use Rattle.m51_chain.specs.declared.work.Plan.{Plan}
use Rattle.m51_chain.specs.declared.work.Plan.TheVariants as plan
use Rattle.m51_chain.specs.declared.status.Status.{Status}
use Rattle.m51_chain.specs.declared.status.Status.TheVariants as status
use Rattle.m51_chain.specs.declared.work.Finish.{Finish}
use Rattle.m51_chain.specs.declared.work.Finished.{Finished}
use Rattle.m51_chain.specs.declared.work.Finish.TheVariants as ending
use Rattle.m51_chain.specs.declared.work.Stop.{Stop}
use Rattle.m51_chain.specs.Reading.{AreGiven, AreRead}
use Rattle.m51_chain.specs.Builds.{build_files}
use Rattle.m51_chain.specs.Linking.{IsLinkedOr, program_in}
use Rattle.m51_chain.specs.ProgramFiles.{AreAnswered}
use Rattle.m51_chain.specs.Programs.{IsMap}

-- The run of a program as it is linked: the text before it is the map, and a board that is started with the program
-- and a script makes at most `most` steps.
pub record IsProgramRun (linked : Linked) (script : Script) (most : ℕ) (text : List ℕ) (board : BoardState) (steps : ℕ)
    : Type 0 where
  pub map : IsMap linked text
  pub started : IsStarted linked.layout linked.image script board
  pub steps_are : steps ≡ most

-- work with this text ends with such a run
abbrev pub EndsInRun : Linked → Script → ℕ → List ℕ → Finish → Type 0
EndsInRun linked script most text (ending.Run board steps) = IsProgramRun linked script most text board steps
EndsInRun linked script most text other = ⊥

-- it ends with the run of the program that files with these contents give, with their script, and with as many steps
-- as the job says
pub record IsBuildRun (job : BuildJob) (contents : List (List ℕ)) (text : List ℕ) (end : Finish) : Type 0 where
  pub inputs : InputsTree
  pub given : AreAnswered (build_files job) contents (Ok inputs)
  pub linked : Linked
  pub program : IsLinkedOr (program_in inputs) (Ok linked)
  pub run : EndsInRun linked inputs.script job.steps text end

-- it is so of a job, if it is a build
abbrev pub IfBuild : Job → (BuildJob → Type 0) → Type 0
IfBuild (Build job) Is = Is job
IfBuild other Is = Unit {0}

-- the work of a build ends with such a run
abbrev pub IsBuildWork : Job → List (List ℕ) → Finished → Type 0
IsBuildWork job contents work = IfBuild job (λ build. IsBuildRun build contents work.text work.ending)

-- a refusal has another status than a run
abbrev pub IsRefusal : Status → Type 0
IsRefusal status.Ran = ⊥
IsRefusal status.Event = ⊥
IsRefusal other = Unit {0}

-- What is to be done is a refusal; or it ends so after a text, and no file is kept.
abbrev pub IsRunPlan : (List ℕ → Finish → Type 0) → Plan → Type 0
IsRunPlan Ends (plan.Refused status text) = IsRefusal status
IsRunPlan Ends (plan.Accepted keeps text end) = (keeps ≡ None) × Ends text end

-- what is to be done for a job whose files have these contents, if it is a build that keeps no HEX
abbrev pub IsBuildPlanned : Job → List (List ℕ) → Plan → Type 0
IsBuildPlanned job contents it =
    IfBuild job (λ build. build.hex ≡ None → IsRunPlan (IsBuildRun build contents) it)

-- the files of a build were read whole, they are what the shelf returned, and it ends with the run of their program
pub record IsRunFor (job : BuildJob) (holds : Option Files) (before after : ReadAt) (text : List ℕ) (end : Finish)
    : Type 0 where
  pub contents : List (List ℕ)
  pub read : AreRead holds (names_read (Build job)) contents
  pub given : AreGiven (names_read (Build job)) before after contents
  pub run : IsBuildRun job contents text end

-- what is to be done for a job, if it is a build that keeps no HEX
abbrev pub IsBuildPlan : Job → Option Files → ReadAt → ReadAt → Plan → Type 0
IsBuildPlan job holds before after it =
    IfBuild job (λ build. build.hex ≡ None → IsRunPlan (IsRunFor build holds before after) it)

-- Accepted work that keeps nothing is planned unchanged: a step between the parts.
abbrev pub IsPlannedAlike : Result Finished Stop → Result Plan NoMemory → Type 0
IsPlannedAlike (Ok work) (Ok it) = it ≡ plan.Accepted None work.text work.ending
IsPlannedAlike made result = Unit {0}

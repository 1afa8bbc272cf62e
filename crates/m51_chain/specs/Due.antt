-- Which answer is due for the arguments and for what the shelf did.
use Rattle.std.specs.Prelude.{◌≡◌, ℕ, ◌<◌, ◌≤◌, List, Option, Some, None, Result, Ok, Err}
use Rattle.m51_cells.specs.declared.limits.TheConstants.{MOST_FILES}
use Rattle.m51_cells.specs.declared.memory.NoMemory.{NoMemory}
use Rattle.m51_jobs.specs.declared.job.Job.{Job}
use Rattle.m51_jobs.specs.Files.{file_count, names_read}
use Rattle.m51_chain.specs.declared.work.Plan.{Plan}
use Rattle.m51_chain.specs.declared.work.Finished.{Finished}
use Rattle.m51_chain.specs.declared.work.Stop.{Stop}
use Rattle.m51_chain.specs.declared.work.Stop.TheVariants as stop
use Rattle.m51_args.specs.Jobs.{job_of}
use Rattle.m51_shelf.specs.Shelf.{Files}
use Rattle.m51_shelf.specs.States.{ReadAt, HasFailed}
use Rattle.m51_chain.specs.Outcome.{Answer, answer_of, named_answer, outcome_of, refused}
use Rattle.m51_chain.specs.Outcome.{usage_answer, many_answer, long_answer, unread_answer}
use Rattle.m51_shelf.specs.Reading.{IsLong}
use Rattle.m51_chain.specs.Reading.{AreRead, AreGiven, ReadsSome, IsFileReached}
use Rattle.m51_chain.specs.Expected.{HasOutcome}

-- The work was done on contents that were read whole, and that are what the shelf returned.
pub record IsWorkFor (job : Job) (holds : Option Files) (before after : ReadAt) (answer : Answer) : Type 0 where
  pub few : file_count job ≤ MOST_FILES
  pub contents : List (List ℕ)
  pub read : AreRead holds (names_read job) contents
  pub given : AreGiven (names_read job) before after contents
  pub has : HasOutcome job contents answer

-- A file of the job was reached, those before it being read whole.
pub record IsAtFor (job : Job) (holds : Option Files) (after : ReadAt) : Type 0 where
  pub few : file_count job ≤ MOST_FILES
  pub reached : IsFileReached holds (names_read job) after.named

-- The answer is due for this job and for what the shelf did.
pub data IsDueFor (job : Job) (holds : Option Files) (before after : ReadAt) (answer : Answer) : Type 0 where
  Many : MOST_FILES < file_count job → answer ≡ many_answer → IsDueFor job holds before after answer
  TooLong : IsAtFor job holds after → IsLong holds after → answer ≡ long_answer
      → IsDueFor job holds before after answer
  Unread : IsAtFor job holds after → HasFailed before after → answer ≡ unread_answer after.named
      → IsDueFor job holds before after answer
  Worked : IsWorkFor job holds before after answer → IsDueFor job holds before after answer

-- The answer is due for these arguments: they are faulty, or it is due for their job.
pub data IsDue (words : List (List ℕ)) (holds : Option Files) (before after : ReadAt) (answer : Answer) : Type 0 where
  Faulty : job_of words ≡ None → answer ≡ usage_answer → IsDue words holds before after answer
  Asked : (job : Job) → job_of words ≡ Some job → IsDueFor job holds before after answer
      → IsDue words holds before after answer

-- There are not too many file arguments, and the file that was started last is one that the arguments name. If what the
-- shelf returns is visible, the files that were started are the first of these, in order.
pub record ReadsOnly (words : List (List ℕ)) (before after : ReadAt) : Type 0 where
  pub job : Job
  pub asked : job_of words ≡ Some job
  pub few : file_count job ≤ MOST_FILES
  pub reads : ReadsSome (names_read job) before after

-- What is to be done for the outcome of work, if the file that is kept has this name: a step between the parts.
abbrev pub IsPlanned : Option (List ℕ) → Result Finished Stop → Result Plan NoMemory → Type 0
IsPlanned name (Ok work) (Ok plan) = answer_of plan ≡ named_answer name (outcome_of work)
IsPlanned name (Ok work) (Err none) = ⊥
IsPlanned name (Err (stop.Refused why text)) (Ok plan) = answer_of plan ≡ named_answer name (refused why text)
IsPlanned name (Err (stop.Refused why text)) (Err none) = ⊥
IsPlanned name (Err stop.Memory) (Ok plan) = ⊥
IsPlanned name (Err stop.Memory) (Err none) = Unit {0}

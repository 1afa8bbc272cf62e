-- The answer for arguments and files.
use Rattle.std.specs.Prelude.{◌≡◌, ℕ, ◌<◌, ◌≤◌, List, Option, Some, None}
use Rattle.m51_cells.specs.declared.limits.TheConstants.{MOST_FILES}
use Rattle.m51_jobs.specs.declared.job.Job.{Job}
use Rattle.m51_jobs.specs.Files.{file_count, names_read, name_kept}
use Rattle.m51_chain.specs.declared.status.Status.{Status}
use Rattle.m51_chain.specs.declared.status.Status.TheVariants as status
use Rattle.m51_args.specs.Jobs.{job_of}
use Rattle.m51_shelf.specs.Shelf.{Files}
use Rattle.m51_chain.specs.Outcome.{Answer, Outcome, named_answer}
use Rattle.m51_chain.specs.Outcome.{usage_answer, many_answer, long_answer, unread_answer}
use Rattle.m51_chain.specs.Reading.{Whole, TooLong, Absent, read_of}
use Rattle.m51_chain.specs.Verbs.{IsOutcome}

-- what the work of a verb may keep, by its status: at a refusal nothing; no other status is one of work
abbrev pub MayKeep : Status → Option (List ℕ) → Type 0
MayKeep status.Ran keeps = Unit {0}
MayKeep status.Event keeps = Unit {0}
MayKeep status.Source keeps = keeps ≡ None
MayKeep status.Link keeps = keeps ≡ None
MayKeep status.Object keeps = keeps ≡ None
MayKeep status.Script keeps = keeps ≡ None
MayKeep status.Limit keeps = keeps ≡ None
MayKeep status.Stack keeps = keeps ≡ None
MayKeep other keeps = ⊥

-- The work of a job on contents has this answer.
pub record HasOutcome (job : Job) (contents : List (List ℕ)) (answer : Answer) : Type 0 where
  pub outcome : Outcome
  pub work : IsOutcome job contents outcome
  pub keeps : MayKeep outcome.status outcome.keeps
  pub is : answer ≡ named_answer (name_kept job) outcome

-- The answer for these arguments and files, the first in this order: the arguments are faulty; there are too many file
-- arguments; a file does not exist or is too long, the first of those that are read; else what the verb makes of their
-- contents.
pub data IsAnswer (words : List (List ℕ)) (files : Files) (answer : Answer) : Type 0 where
  Faulty : job_of words ≡ None → answer ≡ usage_answer → IsAnswer words files answer
  Many : (job : Job) → job_of words ≡ Some job → MOST_FILES < file_count job → answer ≡ many_answer
      → IsAnswer words files answer
  NoFile : (job : Job) (name : List ℕ) → job_of words ≡ Some job → file_count job ≤ MOST_FILES
      → read_of files (names_read job) ≡ Absent name → answer ≡ unread_answer name → IsAnswer words files answer
  LongFile : (job : Job) → job_of words ≡ Some job → file_count job ≤ MOST_FILES
      → read_of files (names_read job) ≡ TooLong → answer ≡ long_answer → IsAnswer words files answer
  Worked : (job : Job) (contents : List (List ℕ)) → job_of words ≡ Some job → file_count job ≤ MOST_FILES
      → read_of files (names_read job) ≡ Whole contents → HasOutcome job contents answer → IsAnswer words files answer

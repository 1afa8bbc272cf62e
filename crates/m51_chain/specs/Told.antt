-- What is known at each status of the top call, and what caused it.
use Rattle.std.specs.Prelude.{◌≡◌, ◌⊎◌, ℕ, ◌<◌, List, Option, Some, None}
use Rattle.std.specs.Io.KnownBytes.{Appends}
use Rattle.m51_cells.specs.declared.limits.TheConstants.{MOST_FILES, MOST_FILE_BYTES}
use Rattle.m51_cells.specs.Outside.{Rose, AppendsFront}
use Rattle.m51_jobs.specs.declared.job.Job.{Job}
use Rattle.m51_jobs.specs.Files.{file_count, name_kept}
use Rattle.m51_chain.specs.declared.status.Status.{Status}
use Rattle.m51_chain.specs.declared.status.Status.TheVariants as status
use Rattle.m51_args.specs.Jobs.{job_of}
use Rattle.m51_shelf.specs.Shelf.{Files, HoldsOthers}
use Rattle.m51_shelf.specs.States.{HasFailed}
use Rattle.m51_chain.specs.Outside.{Change}
use Rattle.m51_chain.specs.Outcome.{Answer, usage_answer, many_answer, long_answer, unread_answer}
use Rattle.m51_chain.specs.Targets.{unkept_text}
use Rattle.m51_chain.specs.Carried.{IsCarriedOut, IsCut, IsUnkept, IsUntouched, IsEnded}
use Rattle.m51_chain.specs.Expected.{IsAnswer}
use Rattle.m51_chain.specs.Due.{IsWorkFor, IsAtFor, IsDue}

-- nothing is kept and nothing is written
abbrev pub Untouched : Change → Type 0
Untouched c = IsUntouched c.keeps_before c.keeps c.sink_before c.sink

-- the answer is kept and written whole, or how it ends otherwise
abbrev pub Written : Answer → Change → Status → Type 0
Written answer c told = IsCarriedOut answer c.keeps_before c.keeps c.sink_before c.sink told

abbrev pub Ended : Answer → Change → Status → Type 0
Ended answer c told = IsEnded answer c.keeps_before c.keeps c.sink_before c.sink told

-- a call on the shelf failed, on a file that the arguments name, and the answer says so
pub record IsUnread (words : List (List ℕ)) (holds : Option Files) (c : Change) (answer : Answer) : Type 0 where
  pub job : Job
  pub asked : job_of words ≡ Some job
  pub at : IsAtFor job holds c.reads
  pub failed : HasFailed c.reads_before c.reads
  pub is : answer ≡ unread_answer c.reads.named

-- If the files of the shelf are visible, the answer for arguments and files is kept and written, or the one for a call
-- on the shelf that failed. Out of memory is free.
abbrev pub IsTold : List (List ℕ) → Files → Change → Status → Type 0
IsTold words held c status.Memory = Untouched c
IsTold words held c told =
    (answer : Answer) × (IsAnswer words held answer ⊎ IsUnread words (Some held) c answer) × Ended answer c told

-- the verb's job was done on what the shelf returned, and its outcome is kept and written whole
pub record IsWorked (words : List (List ℕ)) (c : Change) (told : Status) : Type 0 where
  pub answer : Answer
  pub job : Job
  pub asked : job_of words ≡ Some job
  pub work : IsWorkFor job None c.reads_before c.reads answer
  pub done : Written answer c told

-- the arguments are faulty
pub record IsUsage (words : List (List ℕ)) (c : Change) : Type 0 where
  pub faulty : job_of words ≡ None
  pub done : Written usage_answer c status.Usage

-- there are too many file arguments
pub record IsMany (words : List (List ℕ)) (c : Change) : Type 0 where
  pub job : Job
  pub asked : job_of words ≡ Some job
  pub many : MOST_FILES < file_count job
  pub done : Written many_answer c status.Limit

-- more than 1,048,576 bytes were read from a file that the arguments name
pub record IsLongFile (words : List (List ℕ)) (c : Change) : Type 0 where
  pub job : Job
  pub asked : job_of words ≡ Some job
  pub at : IsAtFor job None c.reads
  pub over : MOST_FILE_BYTES < c.reads.taken
  pub done : Written long_answer c status.Limit

-- a call on the shelf failed, on a file that the arguments name and the text names
pub record IsReadFault (words : List (List ℕ)) (c : Change) : Type 0 where
  pub job : Job
  pub asked : job_of words ≡ Some job
  pub at : IsAtFor job None c.reads
  pub failed : HasFailed c.reads_before c.reads
  pub done : Written (unread_answer c.reads.named) c status.ReadFault

-- a write failed after a prefix of the text that is due
pub record IsSinkFault (words : List (List ℕ)) (c : Change) : Type 0 where
  pub answer : Answer
  pub due : IsDue words None c.reads_before c.reads answer
  pub cut : IsCut answer c.keeps_before c.keeps c.sink_before c.sink

-- the text of a file that could not be kept is written whole, or a write failed after a prefix of it
abbrev pub IsSaid : Change → Type 0
IsSaid c = Appends c.sink_before.text c.sink.text (unkept_text c.keeps.missed)
    ⊎ (Rose c.sink_before.faults c.sink.faults
    × AppendsFront c.sink_before.text c.sink.text (unkept_text c.keeps.missed))

-- The file that the arguments keep could not be kept, all before it being accepted, and this is said.
pub record IsKeepFault (words : List (List ℕ)) (c : Change) : Type 0 where
  pub answer : Answer
  pub job : Job
  pub asked : job_of words ≡ Some job
  pub work : IsWorkFor job None c.reads_before c.reads answer
  pub unkept : IsUnkept answer c.keeps_before c.keeps
  pub named : name_kept job ≡ Some c.keeps.missed
  pub said : IsSaid c

-- what caused each status, whether or not the bytes outside are visible
abbrev pub IsCaused : List (List ℕ) → Change → Status → Type 0
IsCaused words c status.Ran = IsWorked words c status.Ran
IsCaused words c status.Event = IsWorked words c status.Event
IsCaused words c status.Usage = IsUsage words c
IsCaused words c status.Source = IsWorked words c status.Source
IsCaused words c status.Link = IsWorked words c status.Link
IsCaused words c status.Object = IsWorked words c status.Object
IsCaused words c status.Script = IsWorked words c status.Script
IsCaused words c status.Limit = IsWorked words c status.Limit ⊎ (IsMany words c ⊎ IsLongFile words c)
IsCaused words c status.ReadFault = IsReadFault words c
IsCaused words c status.WriteFault = IsSinkFault words c ⊎ IsKeepFault words c
IsCaused words c status.Memory = Untouched c
IsCaused words c status.Stack = IsWorked words c status.Stack

-- the arguments keep a file of this name
pub record IsKeptName (words : List (List ℕ)) (name : List ℕ) : Type 0 where
  pub job : Job
  pub asked : job_of words ≡ Some job
  pub named : name_kept job ≡ Some name

-- the files, if visible, are as before, or all but the one that the arguments keep
abbrev pub HoldsButKept : List (List ℕ) → Option Files → Option Files → Type 0
HoldsButKept words old new = (new ≡ old) ⊎ ((name : List ℕ) × IsKeptName words name × HoldsOthers old new name)

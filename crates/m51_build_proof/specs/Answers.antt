-- Each job has one outcome, and no second one; and arguments and files have one answer.
use Rattle.std.specs.Prelude.{◌≡◌, ℕ, List, length}
use Rattle.m51_jobs.specs.declared.job.Job.{Job}
use Rattle.m51_jobs.specs.Files.{names_read}
use Rattle.m51_shelf.specs.Shelf.{Files}
use Rattle.m51_chain.specs.declared.status.Status.{Status}
use Rattle.m51_chain.specs.Outcome.{Answer, Outcome}
use Rattle.m51_chain.specs.Asked.{IsFit}
use Rattle.m51_chain.specs.Complete.{IsComplete}
use Rattle.m51_chain.specs.Expected.{IsAnswer}
use Rattle.m51_chain.specs.Outside.{Change}
use Rattle.m51_chain.specs.Told.{IsTold}
use Rattle.m51_chain.specs.Verbs.{IsOutcome}
use Rattle.m51_build_proof.specs.Builds.{AreOfBytes}
use Rattle.m51_build_proof.specs.FromChain.{HoldBytes}
use Rattle.m51_build_proof.specs.Headline.{IsOnly}

-- No job has two outcomes for one list of contents, whatever its verb.
abbrev pub NoJobHasTwo : Type 0
NoJobHasTwo = (job : Job) (contents : List (List ℕ)) (one two : Outcome) → IsOutcome job contents one
    → IsOutcome job contents two → one ≡ two

-- No arguments and files have two answers.
abbrev pub NoWordsHaveTwo : Type 0
NoWordsHaveTwo = (words : List (List ℕ)) (files : Files) (one two : Answer) → IsAnswer words files one
    → IsAnswer words files two → one ≡ two

-- A job that arguments can ask for, with a content of bytes for each file that it reads.
pub record IsReady (job : Job) (contents : List (List ℕ)) : Type 0 where
  pub fit : IsFit job
  pub count : length contents ≡ length (names_read job)
  pub bytes : AreOfBytes contents

-- Each such job has one outcome.
abbrev pub EachJobHasOne : Type 0
EachJobHasOne = (job : Job) (contents : List (List ℕ)) → IsReady job contents
    → (outcome : Outcome) × IsOnly job contents outcome

-- It is an answer for the arguments and files, and the only one.
pub record IsOnlyAnswer (words : List (List ℕ)) (files : Files) (answer : Answer) : Type 0 where
  pub is : IsAnswer words files answer
  pub only : (other : Answer) → IsAnswer words files other → other ≡ answer

-- All arguments have one answer, whatever bytes the files hold.
abbrev pub EachHasOneAnswer : Type 0
EachHasOneAnswer = (words : List (List ℕ)) (files : Files) → HoldBytes files
    → (answer : Answer) × IsOnlyAnswer words files answer

-- What the contract of the top call says means that the one answer is kept and written whole, with its status, unless
-- a call failed or memory ran out.
abbrev pub ChainIsComplete : Type 0
ChainIsComplete = (words : List (List ℕ)) (files : Files) (c : Change) (told : Status) → HoldBytes files
    → IsTold words files c told
    → (answer : Answer) × IsOnlyAnswer words files answer × IsComplete answer c told

-- The headline on the top call: a build that ends with status 0 or 1.
use Rattle.std.specs.Prelude.{◌≡◌, ◌⊎◌, ℕ, List, Some}
use Rattle.m51_jobs.specs.declared.job.BuildJob.{BuildJob}
use Rattle.m51_jobs.specs.declared.job.Job.TheVariants.{Build}
use Rattle.m51_jobs.specs.Files.{name_kept, names_read}
use Rattle.m51_args.specs.Jobs.{job_of}
use Rattle.m51_chain.specs.declared.status.Status.{Status}
use Rattle.m51_chain.specs.declared.status.Status.TheVariants.{Event, Ran}
use Rattle.m51_chain.specs.Outcome.{Outcome, named_answer}
use Rattle.m51_chain.specs.Outside.{Change}
use Rattle.m51_chain.specs.Reading.{Whole, read_of}
use Rattle.m51_shelf.specs.Shelf.{Files}
use Rattle.m51_chain.specs.Told.{IsTold, Written}
use Rattle.m51_chain.specs.Verbs.{IsOutcome}
use Rattle.m51_build_proof.specs.Builds.{IsByteList}
use Rattle.m51_build_proof.specs.Headline.{IsAsPromised}

-- each file is of bytes
abbrev pub HoldBytes : Files → Type 0
HoldBytes held = (name file : List ℕ) → held name ≡ Some file → IsByteList file

-- The build was done as promised.
pub record KeepsPromise (job : BuildJob) (held : Files) (c : Change) (told : Status) : Type 0 where
  -- its files were read whole, with these contents
  pub contents : List (List ℕ)
  pub read : read_of held (names_read (Build job)) ≡ Whole contents
  -- the outcome for these contents is as promised
  pub outcome : Outcome
  pub is : IsOutcome (Build job) contents outcome
  pub promised : IsAsPromised job contents outcome
  -- its file is kept, and its text is written whole, with this status
  pub done : Written (named_answer (name_kept (Build job)) outcome) c told

-- For words that ask for a build, over a shelf that shows its files, which are of bytes: what the contract of the top
-- call says (IsTold) means this, if the status is 0 or 1.
abbrev pub ChainKeepsPromise : Type 0
ChainKeepsPromise = (words : List (List ℕ)) (held : Files) (c : Change) (told : Status) (job : BuildJob)
    → job_of words ≡ Some (Build job) → HoldBytes held → IsTold words held c told → (told ≡ Ran) ⊎ (told ≡ Event)
    → KeepsPromise job held c told

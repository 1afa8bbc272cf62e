-- What each verb makes of the contents of its files. A verb is one line here.
use Rattle.std.specs.Prelude.{◌≡◌, ℕ, List}
use Rattle.m51_jobs.specs.declared.job.Job.{Job}
use Rattle.m51_jobs.specs.declared.job.Job.TheVariants.{Build, Asm, Library, Flat, Gen, Dis, Stack, Party}
use Rattle.m51_chain.specs.Analyses.{IsDisOutcome, IsStackOutcome}
use Rattle.m51_chain.specs.Assembles.{IsAsmOutcome}
use Rattle.m51_chain.specs.Builds.{IsBuildOutcome}
use Rattle.m51_chain.specs.FlatRuns.{IsFlatOutcome}
use Rattle.m51_chain.specs.Generates.{IsGenOutcome}
use Rattle.m51_chain.specs.Libraries.{library_outcome_of}
use Rattle.m51_chain.specs.Outcome.{Outcome}
use Rattle.m51_chain.specs.Parties.{IsPartyOutcome}

abbrev pub IsOutcome : Job → List (List ℕ) → Outcome → Type 0
IsOutcome (Build job) contents outcome = IsBuildOutcome job contents outcome
IsOutcome (Asm job) contents outcome = IsAsmOutcome job contents outcome
IsOutcome (Library job) contents outcome = outcome ≡ library_outcome_of job contents
IsOutcome (Flat job) contents outcome = IsFlatOutcome job contents outcome
IsOutcome (Gen job) contents outcome = IsGenOutcome job outcome
IsOutcome (Dis job) contents outcome = IsDisOutcome job contents outcome
IsOutcome (Stack job) contents outcome = IsStackOutcome job contents outcome
IsOutcome (Party job) contents outcome = IsPartyOutcome job contents outcome

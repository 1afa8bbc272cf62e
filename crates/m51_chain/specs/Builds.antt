-- What build makes of its files.
use Rattle.std.specs.Prelude.{ℕ, List}
use Rattle.m51_jobs.specs.declared.job.BuildJob.{BuildJob}
use Rattle.m51_chain.specs.Linking.{IsLinkedOutcome}
use Rattle.m51_chain.specs.Outcome.{Outcome}
use Rattle.m51_chain.specs.ProgramFiles.{ProgramFiles, program_files}
use Rattle.m51_chain.specs.Programs.{IsReport}

abbrev pub build_files : BuildJob → ProgramFiles
build_files job = program_files job.files job.control job.script

-- the program is linked, its map is written, and it is run with the script
abbrev pub IsBuildOutcome : BuildJob → List (List ℕ) → Outcome → Type 0
IsBuildOutcome job contents outcome =
    IsLinkedOutcome (build_files job) contents (λ script linked. IsReport linked job.hex script job.steps) outcome

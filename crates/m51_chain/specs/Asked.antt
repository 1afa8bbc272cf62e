-- What is known of a job that arguments ask for.
use Rattle.std.specs.Prelude.{◌≡◌, ◌≤◌, count_by, true}
use Rattle.m51_jobs.specs.declared.job.Job.{Job}
use Rattle.m51_jobs.specs.declared.job.Job.TheVariants.{Asm, Gen, Party}
use Rattle.m51_jobs.specs.declared.numbers.TheConstants.{MOST_GENERATED_UNITS}
use Rattle.m51_jobs.specs.Endings.{are_boards, is_source}

-- asm has one source, gen makes 1 to 100 units, and party has 2 to 8 files, all of them sources
abbrev pub IsFit : Job → Type 0
IsFit (Asm job) = count_by is_source job.files ≡ 1
IsFit (Gen job) = (1 ≤ job.units) × (job.units ≤ MOST_GENERATED_UNITS)
IsFit (Party job) = are_boards job.files ≡ true
IsFit other = Unit {0}

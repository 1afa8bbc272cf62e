-- The contents of the files that a job reads.
use Rattle.std.specs.Prelude.{◌≡◌, ℕ, ◌≤◌, List, length}
use Rattle.std.specs.List.{All}
use Rattle.m51_cells.specs.declared.limits.TheConstants.{MOST_FILES, MOST_FILE_BYTES}
use Rattle.m51_jobs.specs.declared.job.Job.{Job}
use Rattle.m51_jobs.specs.Files.{file_count, names_read}

-- There are at most MOST_FILES file arguments, and as many contents as files are read, each within the limit.
pub record AreContentsOf (job : Job) (contents : List (List ℕ)) : Type 0 where
  pub few : file_count job ≤ MOST_FILES
  pub count : length contents ≡ length (names_read job)
  pub within : All (λ bytes. length bytes ≤ MOST_FILE_BYTES) contents

-- The runs of addresses that content fills. IsFilled address: content fills the address.
use Rattle.std.specs.Prelude.{◌≡◌, ℕ, ◌+◌, ◌<◌, ◌≤◌, List}
use Rattle.std.specs.List.{All, AllPairs, Contains}
use Rattle.m51_module.specs.declared.linked.Run.{Run}

-- the address is one of the run
pub record IsInRun (run : Run) (address : ℕ) : Type 0 where
  pub from : run.first ≤ address
  pub below : address < run.first + run.len

-- each address of a run is filled, of which there is one or more, and those before and after it are not
pub record IsWholeRun (IsFilled : ℕ → Type 0) (run : Run) : Type 0 where
  pub some : 0 < run.len
  pub filled : (address : ℕ) → IsInRun run address → IsFilled address
  pub before : (address : ℕ) → address + 1 ≡ run.first → IsFilled address → ⊥
  pub after : IsFilled (run.first + run.len) → ⊥

-- each filled address lies in one of the runs, which are whole and ascend
pub record AreRuns (IsFilled : ℕ → Type 0) (runs : List Run) : Type 0 where
  pub whole : All (IsWholeRun IsFilled) runs
  pub all : (address : ℕ) → IsFilled address → (run : Run) × Contains runs run × IsInRun run address
  pub ascending : AllPairs (λ one two. one.first + one.len < two.first) runs

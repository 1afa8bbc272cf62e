-- What comes where no call on the outside fails.
use Rattle.std.specs.Prelude.{◌≡◌, ◌⊎◌}
use Rattle.m51_cells.specs.Outside.{Rose}
use Rattle.m51_chain.specs.declared.status.Status.{Status}
use Rattle.m51_chain.specs.declared.status.Status.TheVariants as status
use Rattle.m51_chain.specs.Outcome.{Answer}
use Rattle.m51_chain.specs.Outside.{Change}
use Rattle.m51_chain.specs.Told.{Untouched, Written}

-- no count of failures rose
pub record IsUnfailed (c : Change) : Type 0 where
  pub reads : Rose c.reads_before.faults c.reads.faults → ⊥
  pub keeps : Rose c.keeps_before.faults c.keeps.faults → ⊥
  pub sink : Rose c.sink_before.faults c.sink.faults → ⊥

-- Out of memory, and nothing is kept or written; or the answer is kept and written whole, with its status.
abbrev pub Completed : Answer → Change → Status → Type 0
Completed answer c told = ((told ≡ status.Memory) × Untouched c) ⊎ Written answer c told

-- it is so, unless a call has failed
abbrev pub IsComplete : Answer → Change → Status → Type 0
IsComplete answer c told = IsUnfailed c → Completed answer c told

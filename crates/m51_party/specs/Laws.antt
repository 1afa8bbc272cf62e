-- There is exactly one family of records, and the steps that the text orders are those of its records.
use Rattle.std.specs.Prelude.{◌≡◌, ℕ, ◌≤◌, List, length, flat_map, All}
use Rattle.m51_sim.specs.declared.cycles.Timed.{Timed}
use Rattle.m51_sim.specs.Boards.{BoardState, separate_of}
use Rattle.m51_sim.specs.Runs.{Record}
use Rattle.m51_sim.specs.SeparateMachine.{Separate}
use Rattle.m51_party.specs.Family.{Family, IsFamily, IsFresh, machine_with, record_with}
use Rattle.m51_party.specs.Text.{StepTold, steps_of}

-- the records are such a family, and every other one is the same
pub record IsOnlyFamily (boards : List BoardState) (n : ℕ) (family : Family) : Type 0 where
  pub is : IsFamily boards n family
  pub only : (other : Family) → IsFamily boards n other → other ≡ family

abbrev pub ExactlyOneFamily : Type 0
ExactlyOneFamily =
    (boards : List BoardState) (n : ℕ) → All IsFresh boards → (family : Family) × IsOnlyFamily boards n family

-- the steps have the entries of a record and are as many, and none starts after its last cycle
pub record AreItsSteps (r : Record Separate) (steps : List StepTold) : Type 0 where
  pub entries : flat_map (λ step. step.entries) steps ≡ r.entries
  pub count : length steps ≡ r.steps
  pub starts : All (λ step. step.start ≤ r.last.cycle) steps

abbrev pub StepsMakeRecords : Type 0
StepsMakeRecords =
    (b : BoardState) (n : ℕ) (extra : List Timed) → IsFresh b
    → AreItsSteps (record_with n extra b) (steps_of (machine_with extra b) n (separate_of b))

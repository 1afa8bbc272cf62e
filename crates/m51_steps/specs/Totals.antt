-- What the columns of the table of counts add up to.
use Rattle.std.specs.Prelude.{◌≡◌, ℕ, zero, suc, ◌+◌}
use Rattle.m51_sim.specs.Runs.{Record, State}
use Rattle.m51_steps.specs.Counts.{Table}

-- the sum of what a function gives at each number below this one
unfoldable pub sum_below : ℕ → (ℕ → ℕ) → ℕ
sum_below zero f = 0
sum_below (suc n) f = sum_below n f + f n

-- over all places TIMES add up to the steps of a record, and CYCLES to the cycles that pass from its first state to its
-- last one
pub record AddsUp {M : Type 0} (t : Table) (first : State M) (r : Record M) : Type 0 where
  pub times : sum_below 65543 t.times ≡ r.steps
  pub cycles : first.cycle + sum_below 65543 t.cycles ≡ r.last.cycle

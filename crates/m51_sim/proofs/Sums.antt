-- The record of a run in two parts.
use Rattle.m51_sim.proofs.Common.{◌≡◌, ℕ, suc, zero, ◌+◌, ◌++◌, Some, None, Result, Ok, Err, refl, sym, ap}
use Rattle.m51_sim.proofs.Common.{Event, Entries, State, Performed, Machine, Record, entries_of, no_step, with_step}
use Rattle.m51_sim.proofs.Common.{IsAdvance}
use Rattle.std.proofs.Common.{append_assoc, zero-add, suc-add}
use Rattle.m51_sim.specs.Runs.{record_from, record_of}
use Rattle.m51_sim.specs.declared.runs.Step.{Step}
use Rattle.m51_sim.specs.declared.runs.Told.{Told}
use Rattle.m51_sim.specs.Run.{IsStep, IsToldStep, step_told, told_by}

-- a run, and then one from its last state
abbrev pub appended : {M : Type 0} → Record M → Record M → Record M
appended r next = record {
  entries = r.entries ++ next.entries;
  event = next.event;
  steps = r.steps + next.steps;
  last = next.last;
}

-- after a step: what holds of the rest holds of the whole
sum_from : {M : Type 0} (machine : Machine M) (a b : ℕ) (s : State M) (step : Result (Performed M) Event)
    → ((t : State M) → (record_of machine a t).event ≡ None
    → record_of machine (a + b) t
    ≡ appended (record_of machine a t) (record_of machine b (record_of machine a t).last))
    → (record_from s (record_of machine a) step).event ≡ None
    → record_from s (record_of machine (a + b)) step
    ≡ appended (record_from s (record_of machine a) step)
    (record_of machine b (record_from s (record_of machine a) step).last)
sum_from machine a b s (Ok step) rest on =
    let r = record_of machine a step.state in
    let next = record_of machine b r.last in
    rw (rest step.state on, append_assoc (entries_of step.told) r.entries next.entries, suc-add r.steps next.steps) refl
sum_from machine a b s (Err event) rest on = absurd (cc on)

-- where no event has ended the first a steps, the record of a + b steps is theirs, and then that of b steps
pub record_sum : {M : Type 0} (machine : Machine M) (a b : ℕ) (s : State M) → (record_of machine a s).event ≡ None
    → record_of machine (a + b) s ≡ appended (record_of machine a s) (record_of machine b (record_of machine a s).last)
unfolding record_of
record_sum machine zero b s on =
    let next = record_of machine b s in
    rw (zero-add b) (ap (λ (n : ℕ). record next { steps = n }) (sym (zero-add next.steps)))
record_sum machine (suc a) b s on =
    rw (suc-add a b) (sum_from machine a b s (machine s) (λ t. record_sum machine a b t) on)

-- what the answer of a step says of the run from there
from_done : {M : Type 0} (s : State M) (rest : State M → Record M) (step : Result (Performed M) Event)
    (told : Entries) (old new : State M) → IsAdvance step (Ok told) old new
    → record_from s rest step ≡ with_step told (rest new)
from_done s rest (Ok step) told old new h = rw (h.0, h.1) refl
from_done s rest (Err event) told old new h = absurd h

from_stopped : {M : Type 0} (s : State M) (rest : State M → Record M) (step : Result (Performed M) Event)
    (told : Event) (old new : State M) → IsAdvance step (Err told) old new
    → (new ≡ old) × (record_from s rest step ≡ no_step (Some told) s)
from_stopped s rest (Ok step) told old new h = absurd h
from_stopped s rest (Err event) told old new h = (h.1, rw (h.0) refl)

pub record_goes : {M : Type 0} (machine : Machine M) (k : ℕ) (told : Entries) (old new : State M)
    → IsAdvance (machine old) (Ok told) old new
    → record_of machine (suc k) old ≡ with_step told (record_of machine k new)
unfolding record_of
record_goes machine k told old new h = from_done old (record_of machine k) (machine old) told old new h

pub record_stops : {M : Type 0} (machine : Machine M) (k : ℕ) (told : Event) (old new : State M)
    → IsAdvance (machine old) (Err told) old new
    → (new ≡ old) × (record_of machine (suc k) old ≡ no_step (Some told) old)
unfolding record_of
record_stops machine k told old new h = from_stopped old (record_of machine k) (machine old) told old new h

-- an advance is a step
pub step_from_advance : {M : Type 0} (r : Result (Performed M) Event) (answer : Result Entries Event) (told : Step)
    (old new : State M) → IsAdvance r answer old new → told ≡ step_told answer → IsStep r told old new
step_from_advance (Ok done) (Ok told) step old new h e = rw e (h.1)
step_from_advance (Err event) (Err told) step old new h e = rw e h
step_from_advance _ _ step old new h e = absurd h

-- and its entries are reported
pub told_from_advance : {M : Type 0} (r : Result (Performed M) Event) (answer : Result Entries Event) (told : Told)
    (old new : State M) → IsAdvance r answer old new → told ≡ told_by answer → IsToldStep r told old new
told_from_advance (Ok done) (Ok told) t old new h e = (rw (e, h.0) refl, h.1)
told_from_advance (Err event) (Err told) t old new h e = (rw (e, h.0) refl, h.1)
told_from_advance _ _ t old new h e = absurd h

-- The columns of the table of counts add up to the steps of the run and to their cycles.
use Rattle.std.proofs.Common.{◌≡◌, ℕ, zero, suc, ◌+◌, ◌-◌, ◌<◌, ◌≤◌, List, [], ◌∷◌, length, Result, Ok, Err, refl, ap}
use Rattle.std.proofs.Common.{ap₂, ◌∙◌, arith}
use Rattle.std.specs.Prelude.{◌==◌, ◌^◌, if◌then◌else◌, sum_by}
use Rattle.std.proofs.lemmas.Bool.Decides.{nat_tests}
use Rattle.std.proofs.lemmas.List.Sums.{sum_by-cons}
use Rattle.m51_cells.proofs.Members.{Every, every_weaker, total}
use Rattle.m51_cells.specs.declared.event.Event.{Event}
use Rattle.m51_module.specs.declared.parts.LayoutParts.{LayoutParts}
use Rattle.m51_sim.specs.Cycles.{Inputs}
use Rattle.m51_sim.specs.Effects.{attempt_of}
use Rattle.m51_sim.specs.Runs.{Machine, Performed, Record, State, record_from, record_of}
use Rattle.m51_sim.specs.SeparateMachine.{Separate, separate_machine}
use Rattle.m51_sim.specs.StepLaws.{IsShort, StepsAreShort}
use Rattle.m51_steps.specs.Counts.{Begun, begun, begun_by, is_at, place_of, table_of}
use Rattle.m51_steps.specs.Totals.{AddsUp, sum_below}

-- the place of a step is one of the table, and its cycle is a number of 64 bits
pub record IsHeld {M : Type 0} (image : List ℕ) (step : Begun M) : Type 0 where
  pub place : place_of (attempt_of image step.from.cpu) step.from.cpu.pc < 65543
  pub cycle : step.from.cycle ≤ 2 ^ 64 - 1

-- ---- sums over numbers

below_same : (n : ℕ) (f g : ℕ → ℕ) → ((k : ℕ) → f k ≡ g k) → sum_below n f ≡ sum_below n g
unfolding sum_below
below_same zero f g h = refl
below_same (suc n) f g h = ap₂ ◌+◌ (below_same n f g h) (h n)

below_add : (n : ℕ) (f g : ℕ → ℕ) → sum_below n (λ k. f k + g k) ≡ sum_below n f + sum_below n g
unfolding sum_below
below_add zero f g = refl
below_add (suc n) f g = omega (arith, below_add n f g)

below_none : (n : ℕ) → sum_below n (λ k. 0) ≡ 0
unfolding sum_below
below_none zero = refl
below_none (suc n) = omega (arith, below_none n)

-- a value at one number, and 0 at others
abbrev at_one : ℕ → ℕ → ℕ → ℕ
at_one at v k = if at == k then v else 0

before_one : (n at v : ℕ) → n ≤ at → sum_below n (at_one at v) ≡ 0
unfolding sum_below
before_one zero at v h = refl
before_one (suc n) at v h = grind (arith, nat_tests, before_one n at v (omega (arith, h)))

below_one : (n at v : ℕ) → at < n → sum_below n (at_one at v) ≡ v
unfolding sum_below
below_one zero at v h = absurd (omega (arith, h))
below_one (suc n) at v h = grind (arith, nat_tests, below_one n at v, before_one n at v)

-- ---- each step is counted at one place

abbrev place_in : {M : Type 0} → List ℕ → Begun M → ℕ
place_in image step = place_of (attempt_of image step.from.cpu) step.from.cpu.pc

abbrev weighed : {M : Type 0} → List ℕ → (Begun M → ℕ) → ℕ → Begun M → ℕ
weighed image weight place step = if is_at image place step then weight step else 0

sums_all : {M : Type 0} (image : List ℕ) (n : ℕ) (weight : Begun M → ℕ) (steps : List (Begun M))
    → Every (λ step. place_in image step < n) steps
    → sum_below n (λ place. sum_by (weighed image weight place) steps) ≡ total weight steps
sums_all image n weight [] h = below_none n
sums_all image n weight (step ∷ steps) h =
    below_same n (λ place. sum_by (weighed image weight place) (step ∷ steps))
    (λ place. at_one (place_in image step) (weight step) place + sum_by (weighed image weight place) steps)
    (λ place. sum_by-cons (weighed image weight place) step steps)
    ∙ below_add n (at_one (place_in image step) (weight step)) (λ place. sum_by (weighed image weight place) steps)
    ∙ ap₂ ◌+◌ (below_one n (place_in image step) (weight step) h.0) (sums_all image n weight steps h.1)

ones : {A : Type 0} (xs : List A) → total (λ x. 1) xs ≡ length xs
ones [] = refl
ones (x ∷ xs) = omega (arith, ones xs)

-- ---- the steps that are counted are those of the record

steps_by : {M : Type 0} (s : State M) (rest : State M → List (Begun M)) (record_at : State M → Record M)
    (r : Result (Performed M) Event) → ((t : State M) → length (rest t) ≡ (record_at t).steps)
    → length (begun_by s rest r) ≡ (record_from s record_at r).steps
steps_by s rest record_at (Ok step) h = ap suc (h step.state)
steps_by s rest record_at (Err event) h = refl

begun_steps : {M : Type 0} (machine : Machine M) (n : ℕ) (s : State M)
    → length (begun machine n s) ≡ (record_of machine n s).steps
unfolding begun record_of
begun_steps machine zero s = refl
begun_steps machine (suc n) s =
    steps_by s (begun machine n) (record_of machine n) (machine s) (begun_steps machine n)

abbrev cycles_in : {M : Type 0} → List (Begun M) → ℕ
cycles_in steps = total (λ step. step.cycles) steps

cycles_by : {M : Type 0} (image : List ℕ) (s : State M) (rest : State M → List (Begun M))
    (record_at : State M → Record M) (r : Result (Performed M) Event)
    → ((step : Performed M) → r ≡ Ok step → s.cycle ≤ 2 ^ 64 - 1 → s.cycle ≤ step.state.cycle)
    → ((t : State M) → Every (IsHeld image) (rest t) → t.cycle + cycles_in (rest t) ≡ (record_at t).last.cycle)
    → Every (IsHeld image) (begun_by s rest r)
    → s.cycle + cycles_in (begun_by s rest r) ≡ (record_from s record_at r).last.cycle
cycles_by image s rest record_at (Ok step) rises on held =
    let more = rises step refl held.0.cycle in
    let after = on step.state held.1 in
    omega (arith, more, after)
cycles_by image s rest record_at (Err event) rises on held = omega arith

-- a step that is performed begins no later than it ends
rises : (image : List ℕ) (s next : State Separate) → IsShort image s next → s.cycle ≤ 2 ^ 64 - 1
    → s.cycle ≤ next.cycle
rises image s next short held = omega (arith, short.cycle, held)

module _ (l : LayoutParts) (image : List ℕ) (inputs : Inputs) (short : StepsAreShort) where
  begun_cycles : (n : ℕ) (s : State Separate) → Every (IsHeld image) (begun (separate_machine l image inputs) n s)
      → s.cycle + cycles_in (begun (separate_machine l image inputs) n s)
      ≡ (record_of (separate_machine l image inputs) n s).last.cycle
  unfolding begun record_of
  begun_cycles zero s held = omega arith
  begun_cycles (suc n) s held =
      cycles_by image s (begun (separate_machine l image inputs) n) (record_of (separate_machine l image inputs) n)
      (separate_machine l image inputs s)
      (λ step is. rises image s step.state (short l image inputs s step is)) (begun_cycles n) held

  pub adds_up : (n : ℕ) (first : State Separate)
      → Every (IsHeld image) (begun (separate_machine l image inputs) n first)
      → AddsUp (table_of image (begun (separate_machine l image inputs) n first)) first
      (record_of (separate_machine l image inputs) n first)
  adds_up n first held =
      let steps = begun (separate_machine l image inputs) n first in
      let places : Every (λ step. place_in image step < 65543) steps =
      every_weaker (IsHeld image) (λ step. place_in image step < 65543) steps (λ step it. it.place) held in
      record {
        times = sums_all image 65543 (λ step. 1) steps places ∙ ones steps
            ∙ begun_steps (separate_machine l image inputs) n first;
        cycles = ap (λ (k : ℕ). first.cycle + k) (sums_all image 65543 (λ step. step.cycles) steps places)
            ∙ begun_cycles n first held;
      }

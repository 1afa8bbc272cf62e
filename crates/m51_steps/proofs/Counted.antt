-- A run that is under way, of which the steps are counted.
use Rattle.std.proofs.Common.{◌≡◌, ℕ, suc, ◌+◌, ◌-◌, ◌*◌, ◌<◌, ◌≤◌, Bool, true, false, List, [], ◌∷◌, ◌++◌, Option}
use Rattle.std.proofs.Common.{Some, None, Result, Ok, Err, refl, ◌∙◌, arith, append_assoc, append-nil}
use Rattle.std.specs.Prelude.{if◌then◌else◌, ◌^◌, count_by, min, sum_by, slice_index}
use Rattle.std.proofs.lemmas.List.Sums.{sum_by_push}
use Rattle.m51_cells.proofs.Members.{Every, every_append}
use Rattle.m51_cells.specs.declared.event.Event.{Event}
use Rattle.m51_sim.specs.Effects.{attempt_of}
use Rattle.m51_sim.specs.Runs.{Machine, Performed, State}
use Rattle.m51_sim.specs.StepLaws.{IsShort}
use Rattle.m51_steps.specs.Counts.{AgreesWith, Begun, IsAdded, IsBlank, Kept, begun, begun_by, cycles_at, is_at}
use Rattle.m51_steps.specs.Counts.{place_of, table_of}
use Rattle.m51_steps.specs.Noted.{IsStepWritten}
use Rattle.m51_steps.proofs.Totals.{IsHeld}

-- some steps are done and counted, and others are to come
pub record IsCounting {M : Type 0} (machine : Machine M) (image : List ℕ) (counts : Kept) (n : ℕ) (first : State M)
    (done : ℕ) (s : State M) : Type 0 where
  pub past : List (Begun M)
  pub rest : begun machine n first ≡ past ++ begun machine (n - done) s
  pub agrees : AgreesWith counts (table_of image past)
  pub few : (place : ℕ) → count_by (is_at image place) past ≤ done
  pub short : (place : ℕ) → sum_by (cycles_at image place) past ≤ 4 * done
  pub held : Every (IsHeld image) past

-- all steps are counted
pub record AllCounted {M : Type 0} (machine : Machine M) (image : List ℕ) (counts : Kept) (n : ℕ) (first : State M)
    : Type 0 where
  pub agrees : AgreesWith counts (table_of image (begun machine n first))
  pub held : Every (IsHeld image) (begun machine n first)

pub counting_start : {M : Type 0} (machine : Machine M) (image : List ℕ) (counts : Kept) (n : ℕ) (first : State M)
    → IsBlank counts → IsCounting machine image counts n first 0 first
counting_start machine image counts n first blank = let none : n - 0 ≡ n = omega arith in record {
  past = [];
  rest = rw none refl;
  agrees = record { times = blank.times; cycles = blank.cycles };
  few = λ place. omega arith;
  short = λ place. omega arith;
  held = tt;
}

-- a number more at a place, or the same at another: what is kept, and the sum
more_at : (b : Bool) (old add limit new sum total : ℕ) → new ≡ (if b then min (old + add) limit else old)
    → old + add ≤ limit → old ≡ sum → total ≡ sum + (if b then add else 0) → new ≡ total
more_at true old add limit new sum total e few is all = omega arith
more_at false old add limit new sum total e few is all = omega arith

at_most : (b : Bool) (add limit old sum total : ℕ) → add ≤ limit → sum ≤ old → total ≡ sum + (if b then add else 0)
    → total ≤ old + limit
at_most true add limit old sum total few most all = omega arith
at_most false add limit old sum total few most all = omega arith

module _ {M : Type 0} {machine : Machine M} {image : List ℕ} {counts : Kept} {n : ℕ} {first : State M} {done : ℕ}
    {s : State M} (counting : IsCounting machine image counts n first done s) where
  -- no step is to come
  all_counted : begun machine (n - done) s ≡ [] → AllCounted machine image counts n first
  all_counted none =
      let all : begun machine n first ≡ counting.past = counting.rest ∙ rw none (append-nil counting.past) in
      record { agrees = rw all counting.agrees; held = rw all counting.held }

  pub counted_at_last : done ≡ n → AllCounted machine image counts n first
  unfolding begun
  counted_at_last all = let none : n - done ≡ 0 = omega arith in all_counted (rw none refl)

  module _ (below : done < n) (a b : Option (List ℕ)) where
    -- the next step
    to_come : (r : Result (Performed M) Event) → machine s ≡ r
        → begun machine (n - done) s ≡ begun_by s (begun machine (n - suc done)) r
    unfolding begun
    to_come r e = let more : n - done ≡ suc (n - suc done) = omega arith in rw (more, e) refl

    next_by : (next : State M) (r : Result (Performed M) Event) → machine s ≡ r → IsStepWritten r a b (Ok None) s next
        → begun machine (n - done) s
        ≡ record { from = s; cycles = next.cycle - s.cycle } ∷ begun machine (n - suc done) next
    next_by next (Ok step) e h = rw (to_come (Ok step) e, h.1) refl
    next_by next (Err event) e h = absurd h

    pub counting_on : (more : Kept) (next : State M) → n ≤ 10000000 → next.cycle - s.cycle ≤ 4
        → IsStepWritten (machine s) a b (Ok None) s next
        → IsAdded counts more (place_of (attempt_of image s.cpu) s.cpu.pc) (next.cycle - s.cycle)
        → place_of (attempt_of image s.cpu) s.cpu.pc < 65543 → s.cycle ≤ 2 ^ 64 - 1
        → IsCounting machine image more n first (done + 1) next
    counting_on more next most short step added place cycle =
        let passed = next.cycle - s.cycle in
        let one : Begun M = record { from = s; cycles = passed } in
        let here = λ (place : ℕ). is_at image place one in
        let times = λ (place : ℕ). sum_by_push (λ (step : Begun M). if is_at image place step then 1 else 0)
        counting.past one in
        let cycles = λ (place : ℕ). sum_by_push (cycles_at image place) counting.past one in
        let same : done + 1 ≡ suc done = omega arith in
        record {
          past = counting.past ++ one ∷ [];
          rest = counting.rest ∙ rw (next_by next (machine s) refl step, append_assoc counting.past, same) refl;
          agrees = record {
            times = λ place inside.
                let few = counting.few place in
                let old = counting.agrees.times place inside in
                more_at (here place) (slice_index counts.times place) 1 (2 ^ 32 - 1) (slice_index more.times place) _ _
                (added.times place inside) (omega (arith, few, old, below, most)) old (times place);
            cycles = λ place inside.
                let few = counting.short place in
                let old = counting.agrees.cycles place inside in
                more_at (here place) (slice_index counts.cycles place) passed (2 ^ 64 - 1)
                (slice_index more.cycles place) _ _ (added.cycles place inside)
                (omega (arith, few, old, below, most, short)) old (cycles place);
          };
          few = λ place. at_most (here place) 1 1 done _ _ (omega arith) (counting.few place) (times place);
          short = λ place. omega (
            arith,
            at_most (here place) passed 4 (4 * done) _ _ short (counting.short place) (cycles place),
          );
          held = every_append (IsHeld image) counting.past (one ∷ []) counting.held
              (record { place = place; cycle = cycle }, tt);
        }

    event_by : (next : State M) (event : Event) (r : Result (Performed M) Event) → machine s ≡ r
        → IsStepWritten r a b (Ok (Some event)) s next → begun machine (n - done) s ≡ []
    event_by next event (Ok step) e h = absurd h
    event_by next event (Err told) e h = rw (to_come (Err told) e) refl

    pub counted_at_event : (next : State M) (event : Event) → IsStepWritten (machine s) a b (Ok (Some event)) s next
        → AllCounted machine image counts n first
    counted_at_event next event step = all_counted (event_by next event (machine s) refl step)

-- a step takes at most four cycles
pub short_by : {M : Type 0} (image : List ℕ) (s next : State M) → IsShort image s next → next.cycle - s.cycle ≤ 4
short_by image s next h = omega (arith, h.cycle, h.few)

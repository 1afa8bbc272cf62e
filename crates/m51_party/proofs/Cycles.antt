-- The frames of what is sent in the cycles of a step, and these cycles with frames that are the same until one of them.
use Rattle.std.proofs.lemmas.Grind.{common_steps}
use Rattle.m51_party.proofs.Common.{◌≡◌, ℕ, zero, suc, ◌+◌, ◌-◌, ◌^◌, ◌≤◌, ◌<◌, inl, inr, Bool, List, [], ◌∷◌, ◌++◌}
use Rattle.m51_party.proofs.Common.{Option, Some, refl, sym, ◌∙◌, arith, min, flat_map, option_to_list, flat_map-append}
use Rattle.m51_party.proofs.Common.{Entry, Timed, Inputs, frames_in, next_cycle, sent_in, with_extra, changed_by}
use Rattle.m51_party.proofs.Common.{Record, entries_of, memory_after, frames_of, frames_sent, Every}
use Rattle.std.proofs.lemmas.Bool.{cases_lt}
use Rattle.m51_cells.specs.declared.event.Entry.TheVariants.{Sent as SentByte}
use Rattle.m51_timers_uart.specs.declared.periph.Sent.{Sent}
use Rattle.m51_sim.specs.Cycles.{cycle_passed, cycles_passed, first_sent}
use Rattle.m51_sim.specs.Runs.{with_step}
use Rattle.m51_sim.proofs.FurtherFrames.{frames_join}
use Rattle.m51_sim.proofs.StepCycles.{one_counts}
use Rattle.m51_sim.proofs.TakenTypes.{taken_by}

-- ---- types of values of a step, by the definitions that take or give them

abbrev third_of : {A B C D : Type 0} → (A → B → C → D) → Type 0
third_of {A} {B} {C} {D} f = C

abbrev given_by : {A B C D : Type 0} → (A → B → C → D) → Type 0
given_by {A} {B} {C} {D} f = D

-- what passes between two cycles of a step, what a step reports, and an effect that is allowed
abbrev pub Passing : Type 0
Passing = given_by changed_by

abbrev pub Entries : Type 0
Entries = taken_by entries_of

abbrev pub Allowed : Type 0
Allowed = third_of memory_after

-- ---- frames

-- the last number of a cycle
abbrev pub top : ℕ
top = 2 ^ 64 - 1

pub joined_same : (cycle : ℕ) (a b c d : List Timed) → frames_in cycle a ≡ frames_in cycle c
    → frames_in cycle b ≡ frames_in cycle d → frames_in cycle (a ++ b) ≡ frames_in cycle (c ++ d)
joined_same cycle a b c d h k = cc (frames_join cycle a b, frames_join cycle c d)

-- none of the frames arrives before this cycle
abbrev pub From : ℕ → List Timed → Type 0
From least ts = Every (λ t. least ≤ t.cycle) ts

pub none_before : (cycle least : ℕ) (ts : List Timed) → cycle < least → From least ts → frames_in cycle ts ≡ []
none_before cycle least [] below h = refl
none_before cycle least (t ∷ ts) below h = grind (arith, common_steps, none_before cycle least ts below h.1)

-- the frames of an entry, if there is one
abbrev pub sent_frames : Option Entry → List Timed
sent_frames o = flat_map frames_of (option_to_list o)

byte_from : (cycle least byte : ℕ) (ninth : Option Bool) → least ≤ cycle + 4
    → From least (sent_frames (Some (SentByte cycle byte ninth)))
byte_from cycle least byte ninth h = grind (arith, common_steps)

sent_from : (cycle least : ℕ) (sent : Option Sent) → least ≤ cycle + 4 → From least (sent_frames (sent_in cycle sent))
sent_from cycle least sent h = grind (arith, common_steps, byte_from cycle least)

first_from : (least : ℕ) (a b : Option Entry) → From least (sent_frames a) → From least (sent_frames b)
    → From least (sent_frames (first_sent a b))
first_from least a b h k = grind (arith, common_steps)

-- what is sent after a cycle adds nothing to it
first_same : (cycle least : ℕ) (a b : Option Entry) → cycle < least → From least (sent_frames b)
    → frames_in cycle (sent_frames (first_sent a b)) ≡ frames_in cycle (sent_frames a)
first_same cycle least a b below h = grind (arith, common_steps, none_before cycle least (sent_frames b) below h)

-- the frames of a step and of the steps after it
pub step_sent : {M : Type 0} (told : Entries) (r : Record M)
    → frames_sent (with_step told r) ≡ (sent_frames told.port ++ sent_frames told.sent) ++ frames_sent r
step_sent told r = cc (
  flat_map-append frames_of (entries_of told) r.entries,
  flat_map-append frames_of (option_to_list told.port) (option_to_list told.sent),
)

pub step_frames : {M : Type 0} (cycle : ℕ) (told : Entries) (r : Record M)
    → frames_in cycle (frames_sent (with_step told r))
    ≡ (frames_in cycle (sent_frames told.port) ++ frames_in cycle (sent_frames told.sent))
    ++ frames_in cycle (frames_sent r)
step_frames cycle told r = cc (
  step_sent told r,
  frames_join cycle (sent_frames told.port ++ sent_frames told.sent) (frames_sent r),
  frames_join cycle (sent_frames told.port) (sent_frames told.sent),
)

-- ---- cycles

module _ (inputs : Inputs) where
  -- the number of the cycle grows by one in each, up to its last value
  next_count : (count : ℕ) (p : Passing)
      → next_cycle (cycles_passed inputs count p).cycle ≡ min (p.cycle + suc count) top
  unfolding cycles_passed
  next_count zero p = omega arith
  next_count (suc count) p = omega (arith, one_counts inputs (cycles_passed inputs count p), next_count count p)

  pub ticks_count : (count : ℕ) (p : Passing) → p.cycle ≤ top
      → (cycles_passed inputs count p).cycle ≡ min (p.cycle + count) top
  unfolding cycles_passed
  ticks_count zero p h = omega arith
  ticks_count (suc count) p h = omega (arith, one_counts inputs (cycles_passed inputs count p), next_count count p)

  tick_sends : (p : Passing) (least : ℕ) → least ≤ next_cycle p.cycle + 4 → From least (sent_frames p.sent)
      → From least (sent_frames (cycle_passed inputs p).sent)
  unfolding cycle_passed
  tick_sends p least h k =
      grind (
        arith,
        common_steps,
        next_cycle p.cycle,
        first_from least p.sent,
        sent_in (next_cycle p.cycle),
        sent_from (next_cycle p.cycle) least,
      )

  -- what is sent comes no earlier than what the first cycle may send
  pub ticks_from : (least count : ℕ) (p : Passing) → least ≤ next_cycle p.cycle + 4 → From least (sent_frames p.sent)
      → From least (sent_frames (cycles_passed inputs count p).sent)
  unfolding cycles_passed
  ticks_from least zero p h k = k
  ticks_from least (suc count) p h k =
      tick_sends (cycles_passed inputs count p) least (omega (arith, next_count count p)) (ticks_from least count p h k)

  tick_adds : (p : Passing) (cycle : ℕ) → cycle ≤ next_cycle p.cycle
      → frames_in cycle (sent_frames (cycle_passed inputs p).sent) ≡ frames_in cycle (sent_frames p.sent)
  unfolding cycle_passed
  tick_adds p cycle h =
      grind (
        arith,
        common_steps,
        next_cycle p.cycle,
        first_same cycle ((next_cycle p.cycle) + 4) p.sent,
        sent_in (next_cycle p.cycle),
        sent_from (next_cycle p.cycle) ((next_cycle p.cycle) + 4),
      )

-- frames that are the same in the cycles from one to another, and before one
abbrev pub SameWithin : ℕ → ℕ → List Timed → List Timed → Type 0
SameWithin first last xs ys = (cycle : ℕ) → first ≤ cycle → cycle ≤ last → frames_in cycle xs ≡ frames_in cycle ys

abbrev pub SameBefore : ℕ → List Timed → List Timed → Type 0
SameBefore limit xs ys = (cycle : ℕ) → cycle < limit → frames_in cycle xs ≡ frames_in cycle ys

module _ (inputs : Inputs) (xs ys : List Timed) where
  tick_same : (p : Passing) → frames_in (next_cycle p.cycle) xs ≡ frames_in (next_cycle p.cycle) ys
      → cycle_passed (with_extra xs inputs) p ≡ cycle_passed (with_extra ys inputs) p
  unfolding cycle_passed
  tick_same p same = let cycle = next_cycle p.cycle in cc

  -- where they are the same in all cycles of a step, so is the step
  pub ticks_same : (count : ℕ) (p : Passing) → SameWithin (next_cycle p.cycle) (min (p.cycle + count) top) xs ys
      → cycles_passed (with_extra xs inputs) count p ≡ cycles_passed (with_extra ys inputs) count p
  unfolding cycles_passed
  ticks_same zero p same = refl
  ticks_same (suc count) p same =
      let q = cycles_passed (with_extra xs inputs) count p in
      let is = next_count (with_extra xs inputs) count p in
      cc (
        tick_same q (same (next_cycle q.cycle) (omega (arith, is)) (omega (arith, is))),
        ticks_same count p (λ cycle h k. same cycle h (omega (arith, k))),
      )

  -- where they are the same before a cycle, what is sent arrives alike until then, and that cycle too
  pub ticks_sent : (limit : ℕ) → SameBefore limit xs ys → (count : ℕ) (p : Passing) (cycle : ℕ) → cycle < suc limit
      → frames_in cycle (sent_frames (cycles_passed (with_extra xs inputs) count p).sent)
      ≡ frames_in cycle (sent_frames (cycles_passed (with_extra ys inputs) count p).sent)
  unfolding cycles_passed
  ticks_sent limit same zero p cycle below = refl
  ticks_sent limit same (suc count) p cycle below =
      let left = cycles_passed (with_extra xs inputs) count p in
      let right = cycles_passed (with_extra ys inputs) count p in
      let one = next_count (with_extra xs inputs) count p in
      let two = next_count (with_extra ys inputs) count p in
      elim (cases_lt (min (p.cycle + suc count) top) limit) [
        | inl b ↦ cc (ticks_same (suc count) p (λ now h k. same now (omega (arith, k, b))))
        | inr h ↦ tick_adds (with_extra xs inputs) left cycle (omega (arith, one, h, below))
            ∙ ticks_sent limit same count p cycle below
            ∙ sym (tick_adds (with_extra ys inputs) right cycle (omega (arith, two, h, below)))
      ]

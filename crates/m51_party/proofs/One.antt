-- There is exactly one family, and the steps of a run are those of its record.
use Rattle.std.proofs.lemmas.Grind.{common_steps}
use Rattle.m51_party.proofs.Common.{◌≡◌, ℕ, zero, suc, ◌+◌, ◌^◌, ◌≤◌, ◌<◌, inl, inr, List, [], ◌∷◌, Result, Ok, Err}
use Rattle.m51_party.proofs.Common.{refl, sym, ◌∙◌, arith, min, flat_map, All, Event, LayoutParts, BoardState, Timed}
use Rattle.m51_party.proofs.Common.{Inputs, frames_in, inputs_of, next_cycle, with_extra, attempt_of, changed_by}
use Rattle.m51_party.proofs.Common.{Record, State, separate_of, entries_of, record_from, Separate, memory_after}
use Rattle.m51_party.proofs.Common.{separate_effect, separate_machine, separate_performs, Family, IsFamily, IsFresh}
use Rattle.m51_party.proofs.Common.{frames_for, frames_sent, record_with, records_from, StepTold, steps_from, Every}
use Rattle.m51_party.proofs.Common.{every_append, every_weaker}
use Rattle.std.proofs.lemmas.Bool.{cases_lt}
use Rattle.m51_cells.proofs.Members.{all_every}
use Rattle.m51_sim.specs.Cycles.{cycles_passed}
use Rattle.m51_sim.specs.Effects.{passed_into, port_entry}
use Rattle.m51_sim.specs.Runs.{Performed, record_of}
use Rattle.m51_sim.specs.StepLaws.{IsShort}
use Rattle.m51_sim.proofs.StepCycles.{steps_short}
use Rattle.m51_party.specs.Laws.{AreItsSteps, ExactlyOneFamily, IsOnlyFamily, StepsMakeRecords}
use Rattle.m51_party.specs.Rounds.{family_after, family_of}
use Rattle.m51_party.specs.Text.{steps_of}
use Rattle.m51_party.proofs.Cycles.{Allowed, From, SameBefore, SameWithin, joined_same, none_before, step_frames}
use Rattle.m51_party.proofs.Cycles.{step_sent, ticks_count, ticks_from, ticks_same, ticks_sent, top}

none_start : (limit : ℕ) → All (λ (step : StepTold). step.start ≤ limit) []
none_start limit k d below = absurd (omega (arith, below))

-- the steps of a run are those of its record, none starts before its first cycle, nor is the last cycle before that
pub record AreMade (first : ℕ) (r : Record Separate) (steps : List StepTold) : Type 0 where
  pub later : first ≤ r.last.cycle
  pub ascend : Every (λ step. first ≤ step.start) steps
  pub are : AreItsSteps r steps

module _ (l : LayoutParts) (image : List ℕ) where
  -- the result of a step that is allowed
  abbrev pub done_by : Inputs → State Separate → Allowed → Performed Separate
  done_by inputs s a = passed_into (memory_after l s.memory a) (port_entry s.cycle a.effect)
      (cycles_passed inputs a.effect.cycles (changed_by s.cycle s.periph a.effect))

  abbrev effect_of : Inputs → State Separate → Result Allowed Event
  effect_of inputs s = separate_effect l image s.cpu s.memory (inputs.pins s.cycle) (attempt_of image s.cpu)

  abbrev run : Inputs → ℕ → State Separate → Record Separate
  run inputs n s = record_of (separate_machine l image inputs) n s

  module _ (inputs : Inputs) where
    made_by : (n : ℕ) (s : State Separate) (r : Result Allowed Event) → s.cycle ≤ top
        → ((t : State Separate) → t.cycle ≤ top → AreMade t.cycle (run inputs n t)
        (steps_of (separate_machine l image inputs) n t))
        → AreMade s.cycle (record_from s (run inputs n) (separate_performs l inputs s r))
        (steps_from s (steps_of (separate_machine l image inputs) n) (separate_performs l inputs s r))
    made_by n s (Err event) h rest = grind (arith, common_steps, none_start s.cycle)
    made_by n s (Ok a) h rest =
        let t = (done_by inputs s a).state in
        let count = ticks_count inputs a.effect.cycles (changed_by s.cycle s.periph a.effect) h in
        let more = rest t (omega (arith, count)) in
        let ascend = every_weaker (λ (step : StepTold). t.cycle ≤ step.start) (λ step. s.cycle ≤ step.start)
        (steps_of (separate_machine l image inputs) n t) (λ step b. omega (arith, b, count, h)) more.ascend in
        grind (arith, common_steps, entries_of (done_by inputs s a).told)

    pub made : (n : ℕ) (s : State Separate) → s.cycle ≤ top
        → AreMade s.cycle (run inputs n s) (steps_of (separate_machine l image inputs) n s)
    unfolding record_of steps_of
    made zero s h = grind (arith, common_steps, none_start s.cycle)
    made (suc n) s h = made_by n s (effect_of inputs s) h (made n)

    late_from : (least n : ℕ) (s : State Separate) (r : Result Allowed Event) → s.cycle ≤ top
        → least ≤ next_cycle s.cycle + 4
        → ((t : State Separate) → t.cycle ≤ top → least ≤ next_cycle t.cycle + 4
        → From least (frames_sent (run inputs n t)))
        → From least (frames_sent (record_from s (run inputs n) (separate_performs l inputs s r)))
    late_from least n s r h k rest = grind (
      arith,
      common_steps,
      done_by inputs s,
      ticks_from inputs least,
      ticks_count inputs,
      step_sent,
      every_append (λ (t : Timed). least ≤ t.cycle),
    )

    -- nothing that a record sends arrives before
    pub record_late : (least n : ℕ) (s : State Separate) → s.cycle ≤ top → least ≤ next_cycle s.cycle + 4
        → From least (frames_sent (run inputs n s))
    unfolding record_of
    record_late least zero s h k = tt
    record_late least (suc n) s h k = late_from least n s (effect_of inputs s) h k (record_late least n)

  -- a step with frames that are the same in its cycles
  performs_same : (inputs : Inputs) (xs ys : List Timed) (s : State Separate) (r : Result Allowed Event)
      → ((a : Allowed) → r ≡ Ok a → SameWithin (next_cycle s.cycle) (min (s.cycle + a.effect.cycles) top) xs ys)
      → separate_performs l (with_extra xs inputs) s r ≡ separate_performs l (with_extra ys inputs) s r
  performs_same inputs xs ys s (Err event) same = refl
  performs_same inputs xs ys s (Ok a) same =
      cc (ticks_same inputs xs ys a.effect.cycles (changed_by s.cycle s.periph a.effect) (same a refl))

  -- of which there are at most four
  few_by : (s next : State Separate) (count : ℕ) → next.cycle ≡ min (s.cycle + count) top → s.cycle ≤ 40000000
      → IsShort image s next → count ≤ 4
  few_by s next count is early short = omega arith

  pub step_few : (inputs : Inputs) (s : State Separate) (a : Allowed) → s.cycle ≤ 40000000
      → separate_machine l image inputs s ≡ Ok (done_by inputs s a) → a.effect.cycles ≤ 4
  step_few inputs s a early is = few_by s (done_by inputs s a).state a.effect.cycles
      (ticks_count inputs a.effect.cycles (changed_by s.cycle s.periph a.effect) (omega (arith, early))) early
      (steps_short l image inputs s (done_by inputs s a) is)

  pub step_within : (inputs : Inputs) (xs ys : List Timed) (s : State Separate) → s.cycle ≤ 40000000
      → SameWithin (s.cycle + 1) (s.cycle + 4) xs ys
      → separate_machine l image (with_extra xs inputs) s ≡ separate_machine l image (with_extra ys inputs) s
  step_within inputs xs ys s early same =
      performs_same inputs xs ys s (effect_of inputs s) (λ a e now h k. same now (omega (arith, h, early))
      (omega (arith, k, step_few (with_extra xs inputs) s a early (rw e refl))))

  module _ (inputs : Inputs) (xs ys : List Timed) (limit : ℕ) (same : SameBefore limit xs ys) where
    abbrev left : Inputs
    left = with_extra xs inputs

    abbrev right : Inputs
    right = with_extra ys inputs

    -- where no cycle is as late, the records are one
    machines_same : top < limit → separate_machine l image left ≡ separate_machine l image right
    machines_same over i s =
        performs_same inputs xs ys s (effect_of inputs s) (λ a e now h k. same now (omega (arith, k, over))) i

    records_same : (n : ℕ) (s : State Separate) → top < limit → run left n s ≡ run right n s
    records_same n s over = cc (machines_same over)

    -- what both send arrives alike, one cycle longer
    abbrev SendAlike : Record Separate → Record Separate → Type 0
    SendAlike r q = (cycle : ℕ) → cycle < suc limit → frames_in cycle (frames_sent r) ≡ frames_in cycle (frames_sent q)

    rest_alike : (n : ℕ) (s t : State Separate) → s.cycle ≡ t.cycle → s.cycle ≤ top → (s.cycle < limit → s ≡ t)
        → SendAlike (run left n s) (run right n s) → SendAlike (run left n s) (run right n t)
    rest_alike n s t e most one rest cycle below = elim (cases_lt s.cycle limit) [
      | inl b ↦ rw (← one b) (rest cycle below)
      | inr h ↦ none_before cycle (suc limit) (frames_sent (run left n s)) below
          (record_late left (suc limit) n s most (omega (arith, h)))
          ∙ sym (none_before cycle (suc limit) (frames_sent (run right n t)) below
          (record_late right (suc limit) n t (omega (arith, e, most)) (omega (arith, e, h))))
    ]

    judged_alike : (n : ℕ) (s : State Separate) (r : Result Allowed Event) → s.cycle ≤ top
        → ((t : State Separate) → t.cycle ≤ top → SendAlike (run left n t) (run right n t))
        → SendAlike (record_from s (run left n) (separate_performs l left s r))
        (record_from s (run right n) (separate_performs l right s r))
    judged_alike n s (Err event) h rest cycle below = refl
    judged_alike n s (Ok a) h rest cycle below =
        let p = done_by left s a in
        let q = done_by right s a in
        let start = changed_by s.cycle s.periph a.effect in
        let one = ticks_count left a.effect.cycles start h in
        let two = ticks_count right a.effect.cycles start h in
        cc (
          step_frames cycle p.told (run left n p.state),
          step_frames cycle q.told (run right n q.state),
          ticks_sent inputs xs ys limit same a.effect.cycles start cycle below,
          rest_alike n p.state q.state (one ∙ sym two) (omega (arith, one)) (λ b. cc (ticks_same inputs xs ys
              a.effect.cycles start (λ now f k. same now (omega (arith, k, b, one))))) (rest p.state
              (omega (arith, one))) cycle below,
        )

    records_alike : (n : ℕ) (s : State Separate) → s.cycle ≤ top → SendAlike (run left n s) (run right n s)
    unfolding record_of
    records_alike zero s h = λ cycle below. refl
    records_alike (suc n) s h = judged_alike n s (effect_of inputs s) h (records_alike n)

-- no board has passed the last cycle
abbrev pub Starts : BoardState → Type 0
Starts b = b.chip.cycle ≤ top

pub fresh_starts : (b : BoardState) → IsFresh b → Starts b
fresh_starts b h = grind (arith, common_steps)

-- what boards are given alike before a cycle
abbrev GivenSame : ℕ → Family → Family → Type 0
GivenSame limit family other = (index : ℕ) → SameBefore limit (frames_for index family) (frames_for index other)

module _ (n limit : ℕ) (family other : Family) (same : GivenSame limit family other) where
  -- a board gives the others alike one cycle longer, and so do all boards
  one_alike : (at : ℕ) (b : BoardState) → Starts b
      → SendAlike b.monitor.layout b.chip.image (inputs_of b.chip.script) (frames_for at family) (frames_for at other)
      limit (same at) (record_with n (frames_for at family) b) (record_with n (frames_for at other) b)
  one_alike at b starts = records_alike b.monitor.layout b.chip.image (inputs_of b.chip.script) (frames_for at family)
      (frames_for at other) limit (same at) n (separate_of b) starts

  all_alike : (at : ℕ) (bs : List BoardState) → Every Starts bs → (cycle : ℕ) → cycle < suc limit
      → frames_in cycle (flat_map frames_sent (records_from at bs n family))
      ≡ frames_in cycle (flat_map frames_sent (records_from at bs n other))
  all_alike at [] starts cycle below = refl
  all_alike at (b ∷ bs) starts cycle below = joined_same cycle _ _ _ _ (one_alike at b starts.0 cycle below)
      (all_alike (suc at) bs starts.1 cycle below)

  -- so each is given the same
  for_alike : (at index : ℕ) (bs : List BoardState) → Every Starts bs
      → SameBefore (suc limit) (frames_for index (records_from at bs n family))
      (frames_for index (records_from at bs n other))
  for_alike at index [] starts cycle below = refl
  for_alike at zero (b ∷ bs) starts cycle below = all_alike (suc at) bs starts.1 cycle below
  for_alike at (suc index) (b ∷ bs) starts cycle below = joined_same cycle _ _ _ _
      (one_alike at b starts.0 cycle below) (for_alike (suc at) index bs starts.1 cycle below)

  -- and what is given alike in all cycles makes the same records
  all_same : (at : ℕ) (bs : List BoardState) → top < limit → records_from at bs n family ≡ records_from at bs n other
  all_same at [] over = refl
  all_same at (b ∷ bs) over = cc (
    records_same b.monitor.layout b.chip.image (inputs_of b.chip.script) (frames_for at family)
        (frames_for at other) limit (same at) n (separate_of b) over,
    all_same (suc at) bs over,
  )

module _ (bs : List BoardState) (n : ℕ) (starts : Every Starts bs) where
  -- after `rounds` rounds the frames before the cycle of that number stay
  rounds_same : (rounds : ℕ) → GivenSame rounds (family_after bs n rounds) (family_after bs n (suc rounds))
  unfolding family_after
  rounds_same zero index cycle below = absurd (omega (arith, below))
  rounds_same (suc rounds) index cycle below =
      for_alike n rounds _ _ (rounds_same rounds) 0 index bs starts cycle below

  -- two families give alike before every cycle
  two_same : (family other : Family) → IsFamily bs n family → IsFamily bs n other → (limit : ℕ)
      → GivenSame limit family other
  two_same family other is also zero index cycle below = absurd (omega (arith, below))
  two_same family other is also (suc limit) index cycle below =
      rw (is, also) (for_alike n limit family other (two_same family other is also limit) 0 index bs starts cycle below)

  one_from : (rounds : ℕ) → top < rounds → IsOnlyFamily bs n (family_after bs n (suc rounds))
  unfolding family_after
  one_from rounds over =
      let family = family_after bs n (suc rounds) in
      let is : IsFamily bs n family = all_same n rounds _ _ (rounds_same rounds) 0 bs over in
      record {
        is = is;
        only = λ other also. also ∙ all_same n rounds other family (two_same other family also is rounds) 0 bs over
            ∙ sym is;
      }

-- the family that is found in rounds is the only one
pub only_family : (bs : List BoardState) (n : ℕ) → All IsFresh bs → IsOnlyFamily bs n (family_of bs n)
unfolding family_of
only_family bs n fresh =
    one_from bs n (every_weaker _ _ bs fresh_starts (all_every _ bs fresh)) (2 ^ 64) (omega arith)

pub exactly_one : ExactlyOneFamily
exactly_one bs n fresh = (family_of bs n, only_family bs n fresh)

pub steps_make_records : StepsMakeRecords
steps_make_records b n extra fresh =
    (made b.monitor.layout b.chip.image (with_extra extra (inputs_of b.chip.script)) n (separate_of b)
    (fresh_starts b fresh)).are

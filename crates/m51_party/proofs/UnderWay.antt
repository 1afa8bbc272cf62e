-- A board that has performed some steps of its record, and one more step of it.
use Rattle.std.proofs.lemmas.Grind.{common_steps}
use Rattle.m51_party.proofs.Common.{◌≡◌, ℕ, suc, ◌+◌, ◌-◌, ◌≤◌, ◌<◌, ◌⊎◌, List, [], ◌∷◌, ◌++◌, Option, Some, None}
use Rattle.m51_party.proofs.Common.{Result, Ok, Err, refl, sym, ◌∙◌, arith, append-nil, append_assoc, flat_map}
use Rattle.m51_party.proofs.Common.{option_to_list, nat_lt, if◌then◌else◌, min, flat_map-append, Entry, Port, Event}
use Rattle.m51_party.proofs.Common.{entry_line, Timed, Told, BoardState, separate_of, Inputs, frames_in, inputs_of}
use Rattle.m51_party.proofs.Common.{with_extra, attempt_of, changed_by, Machine, Record, State, entries_of, Separate}
use Rattle.m51_party.proofs.Common.{separate_effect, separate_machine, separate_performs, Seat, IsFresh, frames_of}
use Rattle.m51_party.proofs.Common.{frames_sent, machine_with, record_with, start_of, HasEventText, IsSeatStep}
use Rattle.m51_party.proofs.Common.{new_seat, told_text, StepTold, front_of, zero-add, every_weaker}
use Rattle.std.proofs.Common.{◌*◌}
use Rattle.std.specs.Prelude.{◌&&◌, is_none}
use Rattle.std.specs.Option.{ForSome, option_map}
use Rattle.m51_sim.specs.Run.{IsToldStep, told_by}
use Rattle.m51_sim.specs.Runs.{Performed, no_step, record_of, with_step}
use Rattle.m51_sim.proofs.FurtherFrames.{frames_join}
use Rattle.m51_party.specs.Seats.{last_sent}
use Rattle.m51_party.specs.Text.{steps_of}
use Rattle.m51_party.proofs.Cycles.{Allowed, Entries, none_before, sent_frames, ticks_count, top}
use Rattle.m51_party.proofs.Merging.{From}
use Rattle.m51_party.proofs.NextBoard.{StartsFrom}
use Rattle.m51_party.proofs.One.{done_by, made, record_late, step_few}
use Rattle.m51_party.proofs.Spacing.{KeepsLast, keeps_step, none_until}

-- entries and steps, and then a run
abbrev pub continued : List Entry → ℕ → Record Separate → Record Separate
continued told steps r = record { entries = told ++ r.entries; event = r.event; steps = steps + r.steps; last = r.last }

-- the steps and the record that are still to come
abbrev pub rest_of : ℕ → List Timed → Seat → List StepTold
rest_of n extra s = steps_of (machine_with extra s.board) (n - s.steps) (separate_of s.board)

abbrev pub rest_record : ℕ → List Timed → Seat → Record Separate
rest_record n extra s = record_of (machine_with extra s.board) (n - s.steps) (separate_of s.board)

-- The steps performed and those to come make its record; the byte sent last is kept; an event has stopped it, and has a
-- text; and no step took more than four cycles.
pub record IsUnderWay (extra : List Timed) (n : ℕ) (r : Record Separate) (s : Seat) : Type 0 where
  pub most : s.steps ≤ n
  pub told : List Entry
  pub is : r ≡ continued told s.steps (rest_record n extra s)
  pub keeps : KeepsLast s.board.chip.cycle s.board.chip.periph (flat_map frames_of told) s.sent
  pub stopped : ForSome s.event (λ event. machine_with extra s.board (separate_of s.board) ≡ Err event)
  pub unfinished : ForSome s.event (λ event. s.steps < n)
  pub cycle : s.board.chip.cycle ≤ 4 * s.steps
  pub text : HasEventText s

without : (o : Option Event) (P : Event → Type 0) → o ≡ None → ForSome o P
without o P e = λ event is. absurd (cc (sym e ∙ is))

no_more : (m : Machine Separate) (n : ℕ) (s : State Separate)
    → record_of m n s ≡ continued [] 0 (record_of m (n - 0) s)
no_more m n s = let none : n - 0 ≡ n = omega arith in rw (none, zero-add) refl

-- so it is at the start
pub under_way_first : (n : ℕ) (extra : List Timed) (b : BoardState) → IsFresh b
    → IsUnderWay extra n (record_with n extra b) (new_seat b)
under_way_first n extra b fresh =
    let is : b.chip.cycle ≡ 0 = grind (arith, common_steps) in
    record {
      most = omega arith;
      told = [];
      is = no_more (machine_with extra b) n (separate_of b);
      keeps = grind (arith, common_steps);
      stopped = without None _ refl;
      unfinished = without None _ refl;
      cycle = omega (arith, is);
      text = without None _ refl;
    }

-- the lines of a step of the board at this index, and its cycle
abbrev pub step_text : ℕ → StepTold → List ℕ
step_text index step = flat_map (λ entry. front_of index ++ entry_line entry) step.entries

abbrev pub start_in : StepTold → ℕ
start_in step = step.start

-- The lines are those of the first of the steps that were to come, which starts in this cycle; or there are none, and
-- what is to come stays.
pub record TakesFirst (index cycle : ℕ) (text : List ℕ) (before after : List StepTold) : Type 0 where
  pub step : StepTold
  pub first : before ≡ step ∷ after
  pub start : step.start ≡ cycle
  pub lines : text ≡ step_text index step

pub record TakesNone (text : List ℕ) (before after : List StepTold) : Type 0 where
  pub same : before ≡ after
  pub lines : text ≡ []

-- after a step it is so, and the step took at most four cycles
pub record IsStepped (index n : ℕ) (extra : List Timed) (r : Record Separate) (told : Told) (old new : Seat) : Type 0
  where
    pub way : IsUnderWay extra n r new
    pub later : old.board.chip.cycle ≤ new.board.chip.cycle
    pub most : new.board.chip.cycle ≤ old.board.chip.cycle + 4
    pub lines : TakesFirst index old.board.chip.cycle (told_text index told) (rest_of n extra old) (rest_of n extra new)
        ⊎ TakesNone (told_text index told) (rest_of n extra old) (rest_of n extra new)

continued_on : (told : List Entry) (steps : ℕ) (t : Entries) (r : Record Separate)
    → continued told steps (with_step t r) ≡ continued (told ++ entries_of t) (steps + 1) r
continued_on told steps t r = grind (arith, common_steps, append_assoc told (entries_of t) r.entries)

record_done : (m : Machine Separate) (k n : ℕ) (s : State Separate) (done : Performed Separate) → n ≡ suc k
    → m s ≡ Ok done → record_of m n s ≡ with_step done.told (record_of m k done.state)
unfolding record_of
record_done m k n s done e h = cc

steps_done : (m : Machine Separate) (k n : ℕ) (s : State Separate) (done : Performed Separate) → n ≡ suc k
    → m s ≡ Ok done
    → steps_of m n s ≡ record { start = s.cycle; entries = entries_of done.told } ∷ steps_of m k done.state
unfolding steps_of
steps_done m k n s done e h = cc

port_none : (cycle : ℕ) (value : ℕ → ℕ) (port : Option ℕ) → sent_frames (option_map (λ p. Port cycle p (value p)) port)
    ≡ []
port_none cycle value port = grind (arith, common_steps)

frames_on : (told : List Entry) (port sent : Option Entry) → sent_frames port ≡ []
    → flat_map frames_of (told ++ (option_to_list port ++ option_to_list sent)) ≡ flat_map frames_of told
    ++ sent_frames sent
frames_on told port sent none = cc (
  flat_map-append frames_of told (option_to_list port ++ option_to_list sent),
  flat_map-append frames_of (option_to_list port) (option_to_list sent),
)

told_lines : (index : ℕ) (told : Told) (t : Entries) → told ≡ told_by (Ok t)
    → told_text index told ≡ flat_map (λ entry. front_of index ++ entry_line entry) (entries_of t)
told_lines index told t e =
    cc (flat_map-append (λ entry. front_of index ++ entry_line entry) (option_to_list t.port) (option_to_list t.sent))

module _ (index n : ℕ) (extra given : List Timed) (r : Record Separate) (told : Told) (old new : Seat)
    (way : IsUnderWay extra n r old) (few : n ≤ 10000000) (h : IsSeatStep given told old new) where
  abbrev st : State Separate
  st = separate_of old.board

  abbrev from : Inputs
  from = with_extra extra (inputs_of old.board.chip.script)

  abbrev done_of : Allowed → Performed Separate
  done_of a = done_by old.board.monitor.layout old.board.chip.image from st a

  -- a step leaves the machine
  same : machine_with extra new.board ≡ machine_with extra old.board
  same = grind (arith, common_steps, h.layout, h.image, h.script, separate_machine, with_extra extra, inputs_of)

  stepped_done : (a : Allowed) → old.steps < n → machine_with extra old.board st ≡ Ok (done_of a)
      → told ≡ told_by (Ok (done_of a).told) → separate_of new.board ≡ (done_of a).state
      → IsStepped index n extra r told old new
  stepped_done a below is told_is e =
      let done = done_of a in
      let steps : new.steps ≡ old.steps + 1 = cc in
      let sent : new.sent ≡ last_sent old.sent done.told.sent = cc in
      let event : new.event ≡ None = cc in
      let more : n - old.steps ≡ suc (n - new.steps) = omega (arith, steps, below) in
      let early : old.board.chip.cycle ≤ 40000000 = omega arith in
      let short = step_few old.board.monitor.layout old.board.chip.image from st a early is in
      let passed : new.board.chip.cycle ≡ min (old.board.chip.cycle + a.effect.cycles) top =
      grind (arith, common_steps) ∙ ticks_count from a.effect.cycles (changed_by st.cycle st.periph a.effect)
      (omega arith) in
      let rest : rest_record n extra new ≡ record_of (machine_with extra old.board) (n - new.steps) done.state =
      λ i. record_of (same i) (n - new.steps) (e i) in
      let steps_rest : rest_of n extra new ≡ steps_of (machine_with extra old.board) (n - new.steps) done.state =
      λ i. steps_of (same i) (n - new.steps) (e i) in
      let cycle : new.board.chip.cycle ≡ done.state.cycle = grind (arith, common_steps) in
      let periph : new.board.chip.periph ≡ done.state.periph = grind (arith, common_steps) in
      record {
        way = record {
          most = omega (arith, steps, below);
          told = way.told ++ entries_of done.told;
          is = cc (
            record_done (machine_with extra old.board) (n - new.steps) (n - old.steps) st done more is,
            continued_on way.told old.steps done.told (record_of (machine_with extra old.board) (n - new.steps)
                done.state),
            rest,
          );
          keeps = rw (
            cycle,
            periph,
            sent,
            frames_on way.told done.told.port done.told.sent (port_none st.cycle _ a.effect.port),
          )
              (keeps_step from st.cycle st.periph a.effect (flat_map frames_of way.told) old.sent
              (omega arith) way.keeps);
          stopped = without new.event _ event;
          unfinished = without new.event _ event;
          cycle = omega arith;
          text = rw h.layout h.text;
        };
        later = omega arith;
        most = omega (arith, passed, short);
        lines = grind (
          arith,
          common_steps,
          st.cycle,
          entries_of done.told,
          steps_done (machine_with extra old.board) (n - new.steps) (n - old.steps) st done more is,
          steps_rest,
          told_lines index told done.told told_is,
        );
      }

  stepped_stopped : (event : Event) → old.steps < n → machine_with extra old.board st ≡ Err event
      → told ≡ told_by (Err event) → separate_of new.board ≡ st → IsStepped index n extra r told old new
  stepped_stopped event below is told_is e =
      let steps : new.steps ≡ old.steps + 0 = cc in
      let sent : new.sent ≡ old.sent = cc in
      let stopped : new.event ≡ Some event = cc in
      let cycle : new.board.chip.cycle ≡ old.board.chip.cycle = cc in
      let periph : new.board.chip.periph ≡ old.board.chip.periph = λ i. (e i).periph in
      let left : n - new.steps ≡ n - old.steps = omega arith in
      let keeps : KeepsLast new.board.chip.cycle new.board.chip.periph (flat_map frames_of way.told) new.sent =
      rw (cycle, periph, sent) way.keeps in
      let record_is : rest_record n extra new ≡ rest_record n extra old = λ i. record_of (same i) (left i) (e i) in
      let rest : rest_of n extra new ≡ rest_of n extra old = λ i. steps_of (same i) (left i) (e i) in
      let error : machine_with extra new.board (separate_of new.board) ≡ Err event = (λ i. (same i) (e i)) ∙ is in
      let text : HasEventText new = rw h.layout h.text in
      grind (arith, common_steps)

  stepped_by : (j : Result Allowed Event) → old.steps < n
      → machine_with extra old.board st ≡ separate_performs old.board.monitor.layout from st j
      → IsToldStep (separate_performs old.board.monitor.layout from st j) told st (separate_of new.board)
      → IsStepped index n extra r told old new
  stepped_by (Ok a) below is step = stepped_done a below is step.0 step.1
  stepped_by (Err event) below is step = stepped_stopped event below is step.0 step.1

  -- where the frames that are passed to it are those of the family in the cycles of the step
  pub stepped : old.steps < n → machine_with given old.board st ≡ machine_with extra old.board st
      → IsStepped index n extra r told old new
  stepped below same =
      stepped_by (separate_effect old.board.monitor.layout old.board.chip.image st.cpu st.memory (from.pins st.cycle)
      (attempt_of old.board.chip.image st.cpu)) below refl (rw same at h.step)

-- ---- a board that makes no more steps, and one that is to be stepped

rest_none : (m : Machine Separate) (k : ℕ) (s : State Separate) → k ≡ 0
    → (record_of m k s ≡ no_step None s) × (steps_of m k s ≡ [])
unfolding record_of steps_of
rest_none m k s e = (cc, cc)

rest_event : (m : Machine Separate) (k : ℕ) (s : State Separate) (event : Event) → 1 ≤ k → m s ≡ Err event
    → (record_of m k s ≡ no_step (Some event) s) × (steps_of m k s ≡ [])
unfolding record_of steps_of
rest_event m k s event below e = grind (arith, common_steps)

-- it makes no more steps where it has performed all, or was stopped
over : (n steps cycle : ℕ) (o : Option Event) → (if nat_lt steps n && is_none o then Some cycle else None) ≡ None
    → o ≡ None → n ≤ steps
over n steps cycle o h e = grind (arith, common_steps)

-- else it starts one, in the cycle that it has reached
pub record IsStarting (n cycle steps now : ℕ) (o : Option Event) : Type 0 where
  pub below : steps < n
  pub event : o ≡ None
  pub cycle_is : now ≡ cycle

starting_by : (n cycle steps now : ℕ) (o : Option Event)
    → (if nat_lt steps n && is_none o then Some now else None) ≡ Some cycle → IsStarting n cycle steps now o
starting_by n cycle steps now o h = grind (arith, common_steps)

pub starting : (n cycle : ℕ) (s : Seat) → start_of n s ≡ Some cycle
    → IsStarting n cycle s.steps s.board.chip.cycle s.event
starting n cycle s h = starting_by n cycle s.steps s.board.chip.cycle s.event h

module _ (n : ℕ) (few : n ≤ 10000000) (extra : List Timed) (r : Record Separate) (s : Seat)
    (way : IsUnderWay extra n r s) where
  abbrev m : Machine Separate
  m = machine_with extra s.board

  pub cycle_few : s.board.chip.cycle ≤ 40000000
  cycle_few = omega arith

  -- where it makes no more steps, its state is the end of its record
  pub record IsEnd : Type 0 where
    pub rest : rest_of n extra s ≡ []
    pub record_is : rest_record n extra s ≡ no_step s.event (separate_of s.board)

  end_by : (o : Option Event) → s.event ≡ o → (o ≡ None → n ≤ s.steps) → IsEnd
  end_by None e h = let x = rest_none m (n - s.steps) (separate_of s.board) (omega (arith, h refl)) in
      record { rest = x.1; record_is = rw e x.0 }
  end_by (Some event) e h =
      let x = rest_event m (n - s.steps) (separate_of s.board) event (omega (arith, way.unfinished event e))
      (way.stopped event e) in
      record { rest = x.1; record_is = rw e x.0 }

  pub at_end : start_of n s ≡ None → IsEnd
  at_end h = end_by s.event refl (over n s.steps s.board.chip.cycle s.event h)

  -- the steps to come start no earlier than the next one
  rest_by : (least : ℕ) (o : Option ℕ) → start_of n s ≡ o → StartsFrom least o
      → From start_in step_text least (rest_of n extra s)
  rest_by least None e h = rw (at_end e).rest tt
  rest_by least (Some cycle) e h =
      let is = starting n cycle s e in
      every_weaker _ _ (rest_of n extra s) (λ step b. omega (arith, b, h, is.cycle_is))
      (made s.board.monitor.layout s.board.chip.image (with_extra extra (inputs_of s.board.chip.script))
      (n - s.steps) (separate_of s.board) (omega (arith, cycle_few))).ascend

  pub rest_late : (least : ℕ) → StartsFrom least (start_of n s) → From start_in step_text least (rest_of n extra s)
  rest_late least h = rest_by least (start_of n s) refl h

  frames_by : (least now : ℕ) (o : Option ℕ) → now < least + 5 → start_of n s ≡ o → StartsFrom least o
      → frames_in now (frames_sent (rest_record n extra s)) ≡ []
  frames_by least now None below e h = cc ((at_end e).record_is)
  frames_by least now (Some cycle) below e h =
      let is = starting n cycle s e in
      none_before now (least + 5) (frames_sent (rest_record n extra s)) below
      (record_late s.board.monitor.layout s.board.chip.image (with_extra extra (inputs_of s.board.chip.script))
      (least + 5) (n - s.steps) (separate_of s.board) (omega (arith, cycle_few)) (omega (
        arith,
        h,
        is.cycle_is,
        cycle_few,
      )))

  -- of what it sends, only the frame that is kept arrives in the next four cycles of a board that starts then
  pub sent_agrees : (least now : ℕ) → least < now → now ≤ least + 4 → s.board.chip.cycle ≤ least + 4
      → StartsFrom least (start_of n s) → frames_in now (option_to_list s.sent) ≡ frames_in now (frames_sent r)
  sent_agrees least now after below near h =
      let keeps = way.keeps in
      let q = rest_record n extra s in
      cc (
        none_until now s.board.chip.cycle keeps.older (omega (arith, near, after)) keeps.before,
        frames_by least now (start_of n s) (omega (arith, below)) refl h,
        flat_map-append frames_of way.told q.entries,
        frames_join now (keeps.older ++ option_to_list s.sent) (frames_sent q),
        append-nil (frames_in now (keeps.older ++ option_to_list s.sent)),
        frames_join now keeps.older (option_to_list s.sent),
      )

  -- it has not come further than its record
  pub last_later : s.board.chip.cycle ≤ r.last.cycle
  last_later =
      let later = (made s.board.monitor.layout s.board.chip.image (with_extra extra (inputs_of s.board.chip.script))
      (n - s.steps) (separate_of s.board) (omega (arith, cycle_few))).later in
      let is : (rest_record n extra s).last.cycle ≡ r.last.cycle = cc in
      omega arith

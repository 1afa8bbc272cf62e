-- The text of a run with notes: one of each state from which a step is made, and one of the last state.
use Rattle.std.specs.Prelude.{◌≡◌, ℕ, zero, suc, List, ◌++◌, flat_map, option_to_list, Option, Some, None, Result, Ok}
use Rattle.std.specs.Prelude.{Err}
use Rattle.std.specs.Io.KnownBytes.{Appends}
use Rattle.m51_cells.specs.Outside.{AppendsFront}
use Rattle.m51_cells.specs.declared.event.Entry.{Entry}
use Rattle.m51_cells.specs.declared.event.Event.{Event}
use Rattle.m51_print.specs.Lines.{entry_line, last_line}
use Rattle.m51_shelf.specs.declared.sink.Failed.{Failed}
use Rattle.m51_sim.specs.Runs.{State, Performed, Machine, Record, entries_of}

-- what is noted of the state after a number of steps, by the state before the last of them and the state itself; where
-- no step was made, both are the first state
abbrev pub Notes : Type 0 → Type 0
Notes M = ℕ → State M → State M → List ℕ

-- the lines of what a step reports: that of a port, and that of a byte sent
abbrev pub told_lines : Option Entry → Option Entry → List ℕ
told_lines port sent = flat_map entry_line (option_to_list port ++ option_to_list sent)

-- after the note of a state: the lines of a step and what comes then, or the last line
abbrev pub after_note : {M : Type 0} → List (List ℕ) → ℕ → State M → (State M → List ℕ) → Result (Performed M) Event
    → List ℕ
after_note titles done s rest (Ok step) = flat_map entry_line (entries_of step.told) ++ rest step.state
after_note titles done s rest (Err event) = last_line titles (Some event) done s.cycle

-- the same, where `done` steps are done and at most `left` are to come
unfoldable pub follows : {M : Type 0} → List (List ℕ) → Machine M → Notes M → ℕ → ℕ → State M → List ℕ
follows titles machine note zero done s = last_line titles None done s.cycle
follows titles machine note (suc left) done s =
    after_note titles done s (λ t. note (suc done) s t ++ follows titles machine note left (suc done) t) (machine s)

-- the text of at most `n` steps with their notes
abbrev pub noted : {M : Type 0} → List (List ℕ) → Machine M → Notes M → ℕ → State M → List ℕ
noted titles machine note n first = note 0 first first ++ follows titles machine note n 0 first

-- the text is written, the event is that of the record, and the run is in its last state
pub record IsWholeNoted {M : Type 0}
    (before after : Option (List ℕ)) (text : List ℕ) (r : Record M) (now : State M) (event : Option Event)
    : Type 0 where
  pub event_is : r.event ≡ event
  pub last : now ≡ r.last
  pub text_is : Appends before after text

-- how a run with notes ends; where the sink has failed, a prefix of the text is written
abbrev pub IsNoted : {M : Type 0}
    → Option (List ℕ) → Option (List ℕ) → List ℕ → Record M → State M → Result (Option Event) Failed → Type 0
IsNoted before after text r now (Ok event) = IsWholeNoted before after text r now event
IsNoted before after text r now (Err failed) = AppendsFront before after text

-- A step is made and its lines are written, or a prefix of them; or an event stops it, and nothing is written.
abbrev pub IsStepWritten : {M : Type 0}
    → Result (Performed M) Event → Option (List ℕ) → Option (List ℕ) → Result (Option Event) Failed → State M
    → State M → Type 0
IsStepWritten (Ok step) before after (Ok None) old new =
    Appends before after (flat_map entry_line (entries_of step.told)) × (new ≡ step.state)
IsStepWritten (Ok step) before after (Ok (Some told)) old new = ⊥
IsStepWritten (Ok step) before after (Err failed) old new =
    AppendsFront before after (flat_map entry_line (entries_of step.told))
IsStepWritten (Err event) before after (Ok None) old new = ⊥
IsStepWritten (Err event) before after (Ok (Some told)) old new = (told ≡ event) × (new ≡ old) × (after ≡ before)
IsStepWritten (Err event) before after (Err failed) old new = ⊥

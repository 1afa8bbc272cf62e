-- What the calls of a board answer, and what a run has written. Titles are those of the placed extents, in order.
use Rattle.std.specs.Prelude.{◌≡◌, ℕ, ◌-◌, ◌≤◌, ◌<◌, ◌⊎◌, List, ◌++◌, length, Option, Some, None, Result, Ok, Err}
use Rattle.std.specs.Prelude.{flat_map}
use Rattle.std.specs.Io.KnownBytes.{Appends}
use Rattle.m51_cells.specs.Outside.{AppendsFront}
use Rattle.m51_cells.specs.declared.event.Event.{Event}
use Rattle.m51_print.specs.Lines.{entry_line, last_line}
use Rattle.m51_sim.specs.declared.runs.Step.{Step}
use Rattle.m51_sim.specs.declared.runs.Entries.{Entries}
use Rattle.m51_sim.specs.declared.runs.Told.{Told}
use Rattle.m51_module.specs.declared.tally.Tally.{Tally}
use Rattle.m51_sim.specs.declared.runs.Step.TheVariants.{Done, Stopped}
use Rattle.m51_sim.specs.declared.runs.RunEnd.{RunEnd}
use Rattle.m51_sim.specs.declared.runs.RunEnd.TheVariants as ends
use Rattle.m51_sim.specs.Runs.{State, Performed, Machine, Record, record_of}

-- what a step that is performed reports, or the event of one that is stopped, which leaves the state
abbrev pub IsAdvance : {M : Type 0} → Result (Performed M) Event → Result Entries Event → State M → State M → Type 0
IsAdvance (Ok done) (Ok told) old new = (told ≡ done.told) × (new ≡ done.state)
IsAdvance (Ok done) (Err told) old new = ⊥
IsAdvance (Err event) (Ok told) old new = ⊥
IsAdvance (Err event) (Err told) old new = (told ≡ event) × (new ≡ old)

-- what an advance reports of its step
abbrev pub step_told : Result Entries Event → Step
step_told (Ok told) = Done
step_told (Err event) = Stopped event

-- a step is done, or it is stopped and leaves the state
abbrev pub IsStep : {M : Type 0} → Result (Performed M) Event → Step → State M → State M → Type 0
IsStep (Ok done) Done old new = new ≡ done.state
IsStep (Ok done) (Stopped told) old new = ⊥
IsStep (Err event) Done old new = ⊥
IsStep (Err event) (Stopped told) old new = (told ≡ event) × (new ≡ old)

-- the event of a step that is stopped
abbrev pub stopped_by : Step → Option Event
stopped_by Done = None
stopped_by (Stopped event) = Some event

-- what an advance reports of its step, with the entries of one that is performed
abbrev pub told_by : Result Entries Event → Told
told_by (Ok told) = record { step = Done; port = told.port; sent = told.sent }
told_by (Err event) = record { step = Stopped event; port = None; sent = None }

-- a step is done and reports its entries, or it is stopped, reports none, and leaves the state
abbrev pub IsToldStep : {M : Type 0} → Result (Performed M) Event → Told → State M → State M → Type 0
IsToldStep (Ok done) told old new = (told ≡ told_by (Ok done.told)) × (new ≡ done.state)
IsToldStep (Err event) told old new = (told ≡ told_by (Err event)) × (new ≡ old)

-- the numbers of a record
abbrev pub tally_of : {M : Type 0} → Record M → Tally
tally_of r = record { entries = length r.entries; steps = r.steps; cycle = r.last.cycle; event = r.event }

-- the lines of a record's entries
abbrev pub entry_lines : {M : Type 0} → Record M → List ℕ
entry_lines r = flat_map entry_line r.entries

-- the text of a record: its entries, and the last line
abbrev pub record_text : {M : Type 0} → List (List ℕ) → Record M → List ℕ
record_text titles r = entry_lines r ++ last_line titles r.event r.steps r.last.cycle

-- the lines of the entries of the first steps
abbrev pub lines_after : {M : Type 0} → Machine M → State M → ℕ → List ℕ
lines_after machine first steps = entry_lines (record_of machine steps first)

-- The byte after the first count bytes of a run's text lies in the lines of the last of these steps.
pub record IsCutInEntry {M : Type 0} (machine : Machine M) (n : ℕ) (first : State M) (count steps : ℕ) : Type 0 where
  pub some : 1 ≤ steps
  pub within : steps ≤ (record_of machine n first).steps
  pub begun : length (lines_after machine first (steps - 1)) ≤ count
  pub unfinished : count < length (lines_after machine first steps)

-- It lies in the run's last line, and these are all steps.
pub record IsCutAtEnd {M : Type 0}
    (titles : List (List ℕ)) (machine : Machine M) (n : ℕ) (first : State M) (count steps : ℕ)
    : Type 0 where
  pub all : steps ≡ (record_of machine n first).steps
  pub begun : length (lines_after machine first steps) ≤ count
  pub unfinished : count < length (record_text titles (record_of machine n first))

-- A run of which count bytes were written is in the state after the step whose lines are not whole, or after its last
-- step if the last line is not whole.
pub record StandsAtCut {M : Type 0}
    (titles : List (List ℕ)) (machine : Machine M) (n : ℕ) (first : State M) (count : ℕ) (now : State M)
    : Type 0 where
  pub steps : ℕ
  pub state : now ≡ (record_of machine steps first).last
  pub cut : IsCutInEntry machine n first count steps ⊎ IsCutAtEnd titles machine n first count steps

-- the record has this event, the run is in its last state, and its text is written
pub record IsWholeRecord {M : Type 0}
    (old new : Option (List ℕ)) (titles : List (List ℕ)) (r : Record M) (now : State M) (event : Option Event)
    : Type 0 where
  pub event_is : r.event ≡ event
  pub last : now ≡ r.last
  pub text : Appends old new (record_text titles r)

-- a prefix of the record's text is written
pub record IsRecordCut {M : Type 0}
    (old new : Option (List ℕ)) (titles : List (List ℕ)) (machine : Machine M) (n : ℕ) (first now : State M)
    : Type 0 where
  pub front : AppendsFront old new (record_text titles (record_of machine n first))
  pub stands : StandsAtCut titles machine n first front.0 now

-- A run of at most n steps has written its whole record and is in its last state, or has written a prefix of it.
abbrev pub Ended : {M : Type 0}
    → Option (List ℕ) → Option (List ℕ) → List (List ℕ) → Machine M → ℕ → State M → State M → RunEnd → Type 0
Ended old new titles machine n first now ends.Finished =
    IsWholeRecord old new titles (record_of machine n first) now None
Ended old new titles machine n first now (ends.Stopped event) =
    IsWholeRecord old new titles (record_of machine n first) now (Some event)
Ended old new titles machine n first now ends.WriteFault = IsRecordCut old new titles machine n first now

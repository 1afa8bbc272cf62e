-- The text that the records of boards on one line make.
use Rattle.std.specs.Prelude.{ℕ, zero, suc, ◌+◌, max, ◌==◌, if◌then◌else◌, List, [], ◌∷◌, ◌++◌, length, flat_map, codes}
use Rattle.std.specs.Prelude.{Result, Ok, Err}
use Rattle.std.specs.Fmt.{decimal}
use Rattle.m51_cells.specs.declared.event.Entry.{Entry}
use Rattle.m51_cells.specs.declared.event.Event.{Event}
use Rattle.m51_print.specs.Lines.{entry_line, last_line, titles_of}
use Rattle.m51_sim.specs.Boards.{BoardState, separate_of}
use Rattle.m51_sim.specs.Runs.{Machine, Performed, State, entries_of}
use Rattle.m51_party.specs.Family.{Family, frames_for, machine_with}

-- a step that was performed: the cycle in which it started, and its entries, that of a port first
pub record StepTold : Type 0 where
  pub start : ℕ
  pub entries : List Entry

abbrev pub steps_from : {M : Type 0} → State M → (State M → List StepTold) → Result (Performed M) Event
    → List StepTold
steps_from s rest (Ok done) = record { start = s.cycle; entries = entries_of done.told } ∷ rest done.state
steps_from s rest (Err event) = []

-- the steps of a run of at most this number of them
unfoldable pub steps_of : {M : Type 0} → Machine M → ℕ → State M → List StepTold
steps_of machine zero s = []
steps_of machine (suc n) s = steps_from s (steps_of machine n) (machine s)

-- the number of a board, counted from 1, a colon and a blank
abbrev pub front_of : ℕ → List ℕ
front_of index = decimal (index + 1) ++ codes ": "

-- the lines of the entries of a step, if it started in that cycle
abbrev pub lines_of : ℕ → List ℕ → StepTold → List ℕ
lines_of cycle front step =
    if step.start == cycle then flat_map (λ entry. front ++ entry_line entry) step.entries else []

-- those of the steps of boards that started in a cycle, in the order of boards
abbrev pub lines_at : ℕ → ℕ → List BoardState → ℕ → Family → List ℕ
lines_at cycle index [] n family = []
lines_at cycle index (b ∷ bs) n family =
    flat_map (lines_of cycle (front_of index)) (steps_of (machine_with (frames_for index family) b) n (separate_of b))
    ++ lines_at cycle (suc index) bs n family

-- those of all cycles before one, in the order of cycles
abbrev pub lines_before : ℕ → List BoardState → ℕ → Family → List ℕ
lines_before zero boards n family = []
lines_before (suc cycle) boards n family =
    lines_before cycle boards n family ++ lines_at cycle 0 boards n family

-- the last line of each board
abbrev pub last_lines : ℕ → List BoardState → Family → List ℕ
last_lines index (b ∷ bs) (r ∷ rs) =
    front_of index ++ last_line (titles_of b.monitor.layout.placed) r.event r.steps r.last.cycle
    ++ last_lines (suc index) bs rs
last_lines index boards family = []

-- the greatest number of a last cycle; no step starts after it
abbrev pub greatest_cycle : Family → ℕ
greatest_cycle [] = 0
greatest_cycle (r ∷ rs) = max r.last.cycle (greatest_cycle rs)

-- How many boards there are; the lines of entries by the cycle in which their step started, then by board; and the
-- last lines.
unfoldable pub party_text : List BoardState → ℕ → Family → List ℕ
party_text boards n family =
    codes "PARTY " ++ decimal (length boards) ++ codes "\n"
    ++ lines_before (greatest_cycle family + 1) boards n family
    ++ last_lines 0 boards family

-- What contracts of private functions see of the boards on the line: a board that was not stepped, and facts for their
-- callers.
use Rattle.std.specs.Prelude.{◌≡◌, ℕ, suc, ◌+◌, ◌-◌, ◌^◌, Bool, ◌&&◌, ◌==◌, nat_lt, min, if◌then◌else◌}
use Rattle.std.specs.Prelude.{List, [], ◌∷◌, ◌++◌, is_none, length, flat_map, option_to_list}
use Rattle.std.specs.Prelude.{slice_get, slice_set, Option, Some, None}
use Rattle.std.specs.Option.{ForSome}
use Rattle.m51_cells.specs.declared.event.Entry.{Entry}
use Rattle.m51_cells.specs.declared.event.Entry.TheVariants.{Port, Sent}
use Rattle.m51_print.specs.Lines.{HasText, entry_line, last_line, titles_of}
use Rattle.m51_sim.specs.declared.cycles.Timed.{Timed}
use Rattle.m51_sim.specs.declared.runs.Step.{Step}
use Rattle.m51_sim.specs.declared.runs.Step.TheVariants.{Done, Stopped}
use Rattle.m51_sim.specs.declared.runs.Told.{Told}
use Rattle.m51_sim.specs.Boards.{BoardState, separate_of}
use Rattle.m51_sim.specs.Run.{IsToldStep, stopped_by}
use Rattle.m51_party.specs.declared.choosing.NextStep.{NextStep}
use Rattle.m51_party.specs.declared.seat.Seat.{Seat}
use Rattle.m51_party.specs.Family.{machine_with}
use Rattle.m51_party.specs.Text.{front_of}

-- a board that was not stepped
abbrev pub new_seat : BoardState → Seat
new_seat b = record { board = b; steps = 0; event = None; sent = None }

-- fewer steps than these were performed, and none was stopped
abbrev pub is_going : ℕ → Seat → Bool
is_going n s = nat_lt s.steps n && is_none s.event

-- the cycle in which the next step starts, if there is one
abbrev pub start_of : ℕ → Seat → Option ℕ
start_of n s = if is_going n s then Some s.board.chip.cycle else None

-- how many steps were performed
abbrev pub count_of : Step → ℕ
count_of Done = 1
count_of (Stopped event) = 0

-- the frame of the byte that was sent, if it has a ninth bit, else the one before
abbrev pub last_sent : Option Timed → Option Entry → Option Timed
last_sent kept (Some (Sent cycle byte (Some ninth))) =
    Some (record { cycle = min (cycle + 4) (2 ^ 64 - 1); frame = record { byte = byte; ninth = ninth } })
last_sent kept (Some (Sent cycle byte None)) = kept
last_sent kept (Some (Port cycle port value)) = kept
last_sent kept None = kept

-- what a step leaves, with this board
abbrev pub after_step : BoardState → Told → Seat → Seat
after_step b told s = record {
  board = b;
  steps = s.steps + count_of told.step;
  event = stopped_by told.step;
  sent = last_sent s.sent told.sent;
}

-- a step of one board, with these frames from the others
pub record IsSeatStep (extra : List Timed) (told : Told) (old new : Seat) : Type 0 where
  pub step : IsToldStep (machine_with extra old.board (separate_of old.board)) told
      (separate_of old.board) (separate_of new.board)
  pub layout : new.board.monitor.layout ≡ old.board.monitor.layout
  pub image : new.board.chip.image ≡ old.board.chip.image
  pub script : new.board.chip.script ≡ old.board.chip.script
  pub after : new ≡ after_step new.board told old
  pub text : ForSome new.event (HasText (length old.board.monitor.layout.placed))

-- what one board sent last to another; to itself it sends nothing
abbrev pub sent_to : ℕ → ℕ → Seat → Option Timed
sent_to at index s = if at == index then None else s.sent

-- the frames that boards, of which the first has index `at`, sent last to the board at `index`
abbrev pub kept_from : ℕ → ℕ → List Seat → List Timed
kept_from at index [] = []
kept_from at index (s ∷ ss) = option_to_list (sent_to at index s) ++ kept_from (suc at) index ss

abbrev pub kept_for : ℕ → List Seat → List Timed
kept_for index seats = kept_from 0 index seats

-- the board at this index has made a step
pub record IsStepAt (index : ℕ) (told : Told) (olds news : List Seat) : Type 0 where
  pub old : Seat
  pub new : Seat
  pub found : slice_get olds index ≡ Some old
  pub step : IsSeatStep (kept_for index olds) told old new
  pub others : news ≡ slice_set olds index new

-- the board that starts before all that come after it, and no later than they
abbrev pub sooner : ℕ → Option ℕ → Option NextStep → Option NextStep
sooner index None later = later
sooner index (Some cycle) None = Some (record { index = index; cycle = cycle })
sooner index (Some cycle) (Some later) =
    if nat_lt later.cycle cycle then Some later else Some (record { index = index; cycle = cycle })

-- of boards of which the first has this index
abbrev pub next_from : ℕ → ℕ → List Seat → Option NextStep
next_from n index [] = None
next_from n index (s ∷ ss) = sooner index (start_of n s) (next_from n (suc index) ss)

-- the line of an entry of a board, if there is one
abbrev pub entry_text : ℕ → Option Entry → List ℕ
entry_text index entry = flat_map (λ entry. front_of index ++ entry_line entry) (option_to_list entry)

-- the lines of a step
abbrev pub told_text : ℕ → Told → List ℕ
told_text index told = entry_text index told.port ++ entry_text index told.sent

-- the last line of a board, without its number and with it
abbrev pub last_text : Seat → List ℕ
last_text s = last_line (titles_of s.board.monitor.layout.placed) s.event s.steps s.board.chip.cycle

abbrev pub end_text : ℕ → Seat → List ℕ
end_text index s = front_of index ++ last_text s

-- those of boards of which the first has this index
abbrev pub ends_text : ℕ → List Seat → List ℕ
ends_text index [] = []
ends_text index (s ∷ ss) = end_text index s ++ ends_text (suc index) ss

-- the event of each, if there is one, has a text
abbrev pub HasEventText : Seat → Type 0
HasEventText s = ForSome s.event (HasText (length s.board.monitor.layout.placed))

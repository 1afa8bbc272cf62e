-- Runs of a machine over any memory: its steps, and the record of at most a given number of them.
use Rattle.std.specs.Prelude.{ℕ, zero, suc, List, [], ◌++◌, Option, None, Some, Result, Ok, Err, option_to_list}
use Rattle.m51_cells.specs.declared.event.Event.{Event}
use Rattle.m51_cells.specs.declared.event.Entry.{Entry}
use Rattle.m51_flat.specs.declared.state.Cpu.{Cpu}
use Rattle.m51_timers_uart.specs.declared.periph.Periph.{Periph}
use Rattle.m51_sim.specs.declared.runs.Entries.{Entries}

-- the processor, the devices, the number of the machine cycle, and a memory
pub record State (M : Type 0) : Type 0 where
  pub cpu : Cpu
  pub periph : Periph
  pub cycle : ℕ
  pub memory : M

-- a step that is performed: the state after it, and the entries that it reports
pub record Performed (M : Type 0) : Type 0 where
  pub state : State M
  pub told : Entries

-- the entries that a step reports, that of a port first
abbrev pub entries_of : Entries → List Entry
entries_of told = option_to_list told.port ++ option_to_list told.sent

-- a machine: the step from each state, which is performed, or stopped by an event
abbrev pub Machine : Type 0 → Type 0
Machine M = State M → Result (Performed M) Event

-- a run: its entries, the event that ended it, how many steps were performed, and the state after them
pub record Record (M : Type 0) : Type 0 where
  pub entries : List Entry
  pub event : Option Event
  pub steps : ℕ
  pub last : State M

-- a run without a step
abbrev pub no_step : {M : Type 0} → Option Event → State M → Record M
no_step event s = record { entries = []; event = event; steps = 0; last = s }

-- a step that is performed, and then a run
abbrev pub with_step : {M : Type 0} → Entries → Record M → Record M
with_step told r = record {
  entries = entries_of told ++ r.entries;
  event = r.event;
  steps = suc r.steps;
  last = r.last;
}

-- the run continues after a step that is performed, and ends before one that is stopped
abbrev pub record_from : {M : Type 0} → State M → (State M → Record M) → Result (Performed M) Event → Record M
record_from s rest (Ok done) = with_step done.told (rest done.state)
record_from s rest (Err event) = no_step (Some event) s

-- the record of at most this number of steps
unfoldable pub record_of : {M : Type 0} → Machine M → ℕ → State M → Record M
record_of machine zero s = no_step None s
record_of machine (suc n) s = record_from s (record_of machine n) (machine s)

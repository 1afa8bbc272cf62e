-- What contracts see of the boards, and which states of the two machines they represent.
use Rattle.std.specs.Prelude.{◌≡◌, ℕ, Bool, true, false, IsTrue, List, Option, Some, None, Result, Ok, if◌then◌else◌}
use Rattle.std.specs.Prelude.{◌&&◌}
use Rattle.m51_cells.specs.declared.event.Event.{Event}
use Rattle.m51_module.specs.declared.parts.LayoutParts.{LayoutParts}
use Rattle.m51_module.specs.Plan.{IsUnitAt}
use Rattle.m51_flat.specs.declared.state.Cpu.{Cpu}
use Rattle.m51_flat.specs.declared.state.Effect.{Effect}
use Rattle.m51_flat.specs.declared.state.Level.{Level}
use Rattle.m51_flat.specs.States.{CellState, States, Holds, Absent, Fresh}
use Rattle.m51_flat.specs.Reads.{CellMap}
use Rattle.m51_flat.specs.Flat.{FlatBytes, flat_cells}
use Rattle.m51_flat.specs.Sfr.{latch, sp}
use Rattle.m51_timers_uart.specs.declared.periph.Periph.{Periph}
use Rattle.m51_script.specs.declared.script.Script.{Script}
use Rattle.m51_monitor.specs.Monitored.{Monitored, AreActivations, MonitorStandsFor, live_in}
use Rattle.m51_monitor.specs.Records.{current}
use Rattle.m51_monitor.specs.Rising.{HaveLevels, IsAbove, levels}
use Rattle.m51_monitor.specs.Shared.{cell_state}
use Rattle.m51_monitor.specs.Stores.{Stores, has_cell, is_common}
use Rattle.m51_sim.specs.declared.chip.Draft.{Draft}
use Rattle.m51_sim.specs.declared.runs.Entries.{Entries}
use Rattle.m51_sim.specs.declared.cycles.Passing.{Passing}
use Rattle.m51_sim.specs.Cycles.{Inputs, cycles_passed, inputs_of}
use Rattle.m51_sim.specs.Effects.{changed_by, port_entry}
use Rattle.m51_sim.specs.Runs.{State}
use Rattle.m51_sim.specs.FlatMachine.{filled_map, reset_with}
use Rattle.m51_sim.specs.SeparateMachine.{Separate, separate_start}

-- an image, a script, the processor, the devices, and the number of the machine cycle
pub record ChipState : Type 0 where
  pub image : List ℕ
  pub script : Script
  pub cpu : Cpu
  pub periph : Periph
  pub cycle : ℕ

-- the same with a monitor, and with one memory for all
pub record BoardState : Type 0 where
  pub chip : ChipState
  pub monitor : Monitored

pub record FlatState : Type 0 where
  pub chip : ChipState
  pub memory : FlatBytes

-- the cycles of an effect are passed, by the parts of a chip
abbrev pub passing : ChipState → Entries → Passing
passing chip told = record { cpu = chip.cpu; periph = chip.periph; cycle = chip.cycle; sent = told.sent }

pub record IsPassed (inputs : Inputs) (old new : ChipState) (e : Effect) (told : Entries) : Type 0 where
  pub port : told.port ≡ port_entry old.cycle e
  pub passed : passing new told ≡ cycles_passed inputs e.cycles (changed_by old.cycle old.periph e)

-- what a step leaves as it is
pub record Loaded : Type 0 where
  pub layout : LayoutParts
  pub image : List ℕ
  pub script : Script

pub record FlatLoaded : Type 0 where
  pub image : List ℕ
  pub script : Script

-- the state of a machine, with a memory
abbrev pub state_with : {M : Type 0} → ChipState → M → State M
state_with chip memory = record { cpu = chip.cpu; periph = chip.periph; cycle = chip.cycle; memory = memory }

-- the value that a cell holds
abbrev pub held_value : CellState → Option ℕ
held_value (Holds v) = Some v
held_value Absent = None
held_value Fresh = None

-- The stores that a monitor represents, read off its memory: a live segment has what the memory holds in its cells, and
-- the common store what it holds where no segment is; all else is unset.
abbrev pub stores_read : Monitored → Stores
stores_read m = record {
  segment = λ t c.
      if live_in m.layout m.records t && has_cell m.layout t c then held_value (cell_state m.store c) else None;
  common = λ c. if is_common m.layout c then held_value (cell_state m.store c) else None;
}

abbrev pub held_memory : Monitored → Separate
held_memory m = record { records = m.records; stores = stores_read m }

-- the state of the separate machine
abbrev pub separate_of : BoardState → State Separate
separate_of board = state_with board.chip (held_memory board.monitor)

-- what a cell holds; 0 where it holds nothing
abbrev pub value_in_cell : CellState → ℕ
value_in_cell (Holds v) = v
value_in_cell Absent = 0
value_in_cell Fresh = 0

abbrev pub values_of : States → CellMap
values_of s = record { ram = λ n. value_in_cell (s.ram n); xram = λ n. value_in_cell (s.xram n) }

-- the values of a memory's cells, and 0 past its end
abbrev pub map_of : FlatBytes → CellMap
map_of memory = values_of (flat_cells memory)

-- the state of the flat machine
abbrev pub flat_of : FlatState → State CellMap
flat_of board = state_with board.chip (map_of board.memory)

-- What holds between the records and the processor: the current unit covers PC, SP is not below that of the topmost
-- record, and the interrupts that have records were taken at the levels in progress, a low one below a high one.
pub record IsInOrder (m : Monitored) (cpu : Cpu) : Type 0 where
  pub covered : IsUnitAt m.layout cpu.pc (current m.records)
  pub above : IsAbove m.records.returns 0 (latch cpu sp)
  pub taken : List Level
  pub have : HaveLevels m.records.returns taken (levels cpu)

-- a draft says no more than what holds: that the processor of its effect is this one
abbrev pub IsDraftOf : Draft → Cpu → Type 0
IsDraftOf d cpu = IsTrue d.same → d.effect.cpu ≡ cpu

-- what a step reports, where it is known whether a draft has anything of it
abbrev pub told_in : Bool → Draft → Result Entries Event
told_in true d = d.told
told_in false d = Ok (record { port = None; sent = None })

pub record IsReady (m : Monitored) (cpu : Cpu) (d : Draft) : Type 0 where
  pub order : IsInOrder m cpu
  pub draft : IsDraftOf d cpu

-- A board represents its separate state: the memory represents the stores, the units of the records form walks from
-- roots of which none runs twice, and records and processor are in order.
pub record StandsForState (board : BoardState) : Type 0 where
  pub stores : MonitorStandsFor board.monitor (stores_read board.monitor)
  pub records : AreActivations board.monitor.layout board.monitor.records
  pub order : IsInOrder board.monitor board.chip.cpu

-- a board after a reset, with this layout, image and script
pub record IsStarted (layout : LayoutParts) (image : List ℕ) (script : Script) (board : BoardState) : Type 0 where
  pub layout_is : board.monitor.layout ≡ layout
  pub image_is : board.chip.image ≡ image
  pub script_is : board.chip.script ≡ script
  pub state : separate_of board ≡ reset_with (inputs_of script) (separate_start layout script.fill)

pub record IsFlatStarted (image : List ℕ) (script : Script) (board : FlatState) : Type 0 where
  pub image_is : board.chip.image ≡ image
  pub script_is : board.chip.script ≡ script
  pub state : flat_of board ≡ reset_with (inputs_of script) (filled_map script.fill)

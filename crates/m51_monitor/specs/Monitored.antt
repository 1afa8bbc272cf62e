-- A monitor as callers see it, and what holds of it at every moment.
use Rattle.std.specs.Prelude.{◌≡◌, ℕ, ◌≤◌, ◌<◌, true, List, [], ◌∷◌, length, slice_index, Ok}
use Rattle.m51_cells.specs.Cells.{IsDataCell}
use Rattle.m51_cells.specs.declared.cell.Cell.{Cell}
use Rattle.m51_module.specs.declared.parts.LayoutParts.{LayoutParts}
use Rattle.m51_module.specs.Plan.{IsRootAt}
use Rattle.m51_flat.specs.declared.state.Cpu.{Cpu}
use Rattle.m51_flat.specs.declared.state.Effect.{Effect}
use Rattle.m51_monitor.specs.declared.step.Move.{Move}
use Rattle.m51_flat.specs.declared.state.Put.{Put}
use Rattle.m51_flat.specs.declared.state.Put.TheVariants.{Byte}
use Rattle.m51_monitor.specs.declared.step.Move.TheVariants.{Stay, Return, Jump as JumpTo, Interrupt as InterruptTo}
use Rattle.m51_monitor.specs.Records.{Records, AreWalks, units_named, naming}
use Rattle.m51_monitor.specs.Rising.{HeightsRise, interrupts}
use Rattle.m51_monitor.specs.Shared.{Shared}
use Rattle.m51_monitor.specs.Stores.{IsOver, Live, Stores, StandsFor, filled_stores, live_by, put_into, unset_dead}
use Rattle.m51_monitor.specs.Transfers.{Judges}

pub record Monitored : Type 0 where
  pub layout : LayoutParts
  pub records : Records
  pub store : Shared

-- the segments that are live, by number
abbrev pub live_in : LayoutParts → Records → Live
live_in l a = live_by l (units_named a)

-- Records that a run may have: they form walks, SP rises from each to the next, and at most two interrupts are in
-- progress.
pub record AreActivations (l : LayoutParts) (a : Records) : Type 0 where
  pub stand : AreWalks l a
  pub heights : HeightsRise a.returns
  pub levels : interrupts a.returns ≤ 2

-- the stores after the records changed: what is not live then is unset
abbrev pub stores_changed : LayoutParts → Records → Stores → Stores
stores_changed l b s = unset_dead (live_in l b) s

-- the stores after the two puts, by the records before them, and the change of the records
abbrev pub stores_after : LayoutParts → Records → Records → Effect → Stores → Stores
stores_after l a b e s = stores_changed l b (put_into l (live_in l a) e.second (put_into l (live_in l a) e.first s))

-- the monitor's memory represents the stores
abbrev pub MonitorStandsFor : Monitored → Stores → Type 0
MonitorStandsFor m s = StandsFor m.layout (live_in m.layout m.records) m.store s

-- if the memory represents some stores before, it represents those stores with the change afterwards
abbrev pub StandsAfter : (Stores → Stores) → Monitored → Monitored → Type 0
StandsAfter change old new = (s : Stores) → MonitorStandsFor old s → MonitorStandsFor new (change s)

-- the table allowed the move, for a processor before the effect
pub record WasJudged (m : Monitored) (e : Effect) (step : Move) : Type 0 where
  pub cpu : Cpu
  pub judges : Judges m.layout m.records cpu e (Ok step)

-- an interrupt comes only where at most one is in progress
abbrev pub HasLevel : Monitored → Move → Type 0
HasLevel m (InterruptTo source u) = interrupts m.records.returns ≤ 1
HasLevel m other = Unit {0}

-- the put stores a byte
abbrev pub IsByte : Put → Type 0
IsByte (Byte address value) = Unit {0}
IsByte other = ⊥

-- where a record is made, the two puts are the bytes of its return address
abbrev pub HasAddress : Effect → Move → Type 0
HasAddress e Stay = Unit {0}
HasAddress e (JumpTo u) = Unit {0}
HasAddress e Return = Unit {0}
HasAddress e other = IsByte e.first × IsByte e.second

-- for each unit how many records name it, which are three at most
pub record AreNumbers (m : Monitored) (numbers : List ℕ) : Type 0 where
  pub len : length numbers ≡ length m.layout.units
  pub number : (u : ℕ) → u < length m.layout.units → slice_index numbers u ≡ naming m.records u
  pub most : (u : ℕ) → u < length m.layout.units → slice_index numbers u ≤ 3

-- the records at the reset name only its root
abbrev pub started : ℕ → Records
started root = record { reset = root ∷ []; returns = [] }

-- a monitor at the reset
pub record IsStart (l : LayoutParts) (fill : ℕ) (m : Monitored) : Type 0 where
  pub layout : m.layout ≡ l
  pub root : ℕ
  pub is_root : IsRootAt l 0 root
  pub records : m.records ≡ started root
  pub stores : MonitorStandsFor m (filled_stores l fill)

-- the segment of that number is live and over the cell of data memory, so that its store is the one that answers:
-- stores have no cells of program memory
pub record AnswersAt (m : Monitored) (c : Cell) (t : ℕ) : Type 0 where
  pub of_data : IsDataCell c
  pub over : IsOver m.layout t c
  pub live : live_in m.layout m.records t ≡ true

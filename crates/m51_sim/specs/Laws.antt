-- The record of the separate machine is one of the flat machine.
use Rattle.std.specs.Prelude.{◌≡◌, ℕ, suc, List, None, Some}
use Rattle.m51_cells.specs.Cells.{IsDataCell}
use Rattle.m51_cells.specs.declared.cell.Cell.{Cell}
use Rattle.m51_cells.specs.declared.cell.Space.{Space}
use Rattle.m51_cells.specs.declared.cell.Space.TheVariants.{Ram, Xram, Code}
use Rattle.m51_cells.specs.declared.event.Event.{Event}
use Rattle.m51_cells.specs.declared.event.Event.TheVariants.{Transfer, Outside, Unwritten, Reserved, PowerDown}
use Rattle.m51_module.specs.declared.parts.LayoutParts.{LayoutParts}
use Rattle.m51_module.specs.Plan.{IsOverlaid}
use Rattle.m51_module.specs.Sound.{IsSound}
use Rattle.m51_flat.specs.Reads.{CellMap}
use Rattle.m51_monitor.specs.Stores.{IsOver, fill_in}
use Rattle.m51_sim.specs.Cycles.{Inputs}
use Rattle.m51_sim.specs.Runs.{Record, record_of}
use Rattle.m51_sim.specs.FlatMachine.{filled_map, flat_machine, reset_with}
use Rattle.m51_sim.specs.SeparateMachine.{Separate, separate_machine, separate_start}

-- the value that the map has in a cell
abbrev pub mapped_value : CellMap → Space → ℕ → ℕ
mapped_value m Ram at = m.ram at
mapped_value m Xram at = m.xram at
mapped_value m Code at = 0

-- the map has the fill on each cell that no overlaid segment covers; the others may hold anything
pub record HasFill (l : LayoutParts) (fill : ℕ) (m : CellMap) : Type 0 where
  pub each : (c : Cell) → IsDataCell c → ((t : ℕ) → IsOverlaid l t → IsOver l t c → ⊥)
      → mapped_value m c.space c.at ≡ fill_in fill c.space c.at

-- the flat machine stops at these events too
abbrev pub IsSharedEvent : Event → Type 0
IsSharedEvent (Transfer why from to) = ⊥
IsSharedEvent (Outside cell at) = ⊥
IsSharedEvent (Unwritten cell segment at) = ⊥
IsSharedEvent (Reserved at) = Unit {0}
IsSharedEvent (PowerDown at) = Unit {0}

-- a record of the flat machine has the steps that are performed in one of the separate machine, and no event
pub record IsSameRun (separate : Record Separate) (flat : Record CellMap) : Type 0 where
  pub entries : flat.entries ≡ separate.entries
  pub event : flat.event ≡ None
  pub steps : flat.steps ≡ separate.steps
  pub cpu : flat.last.cpu ≡ separate.last.cpu
  pub periph : flat.last.periph ≡ separate.last.periph
  pub cycle : flat.last.cycle ≡ separate.last.cycle

-- Over the same image and the same inputs, from every starting map that has the fill outside overlaid cells: over the
-- steps that the separate machine performs, the flat machine gives the same entries; and where the separate machine
-- then stops at the reserved opcode or at power-down, so does the flat machine.
pub record FlatRunsAgree : Type 0 where
  pub steps : (l : LayoutParts) (image : List ℕ) (inputs : Inputs) (fill : ℕ) (m : CellMap) (n : ℕ) → IsSound l
      → HasFill l fill m
      → let run = record_of (separate_machine l image inputs) n (reset_with inputs (separate_start l fill)) in
      IsSameRun run (record_of (flat_machine image inputs) run.steps (reset_with inputs m))
  pub stops : (l : LayoutParts) (image : List ℕ) (inputs : Inputs) (fill : ℕ) (m : CellMap) (n : ℕ) (event : Event)
      → IsSound l → HasFill l fill m
      → let run = record_of (separate_machine l image inputs) n (reset_with inputs (separate_start l fill)) in
      run.event ≡ Some event → IsSharedEvent event
      → (record_of (flat_machine image inputs) (suc run.steps) (reset_with inputs m)).event ≡ Some event

-- the map of a flat board is one of these
abbrev pub FilledHasFill : Type 0
FilledHasFill = (l : LayoutParts) (fill : ℕ) → HasFill l fill (filled_map fill)

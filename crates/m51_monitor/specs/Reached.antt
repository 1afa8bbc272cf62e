-- Records that a run can reach, and what holds of all of them.
use Rattle.std.specs.Prelude.{◌≡◌, ℕ, ◌<◌, ◌≤◌, length, Ok}
use Rattle.m51_cells.specs.declared.limits.TheConstants.{MOST_RETURN_RECORDS}
use Rattle.m51_flat.specs.declared.state.Cpu.{Cpu}
use Rattle.m51_flat.specs.declared.state.Effect.{Effect}
use Rattle.m51_flat.specs.Sfr.{latch, sp}
use Rattle.m51_module.specs.declared.parts.LayoutParts.{LayoutParts}
use Rattle.m51_module.specs.Plan.{IsRootAt}
use Rattle.m51_module.specs.Sound.{IsSound}
use Rattle.m51_monitor.specs.declared.step.Move.{Move}
use Rattle.m51_monitor.specs.Monitored.{HasLevel, Monitored, live_in, started}
use Rattle.m51_monitor.specs.Records.{Records}
use Rattle.m51_monitor.specs.Related.{OneLive}
use Rattle.m51_monitor.specs.Rising.{HeightsRise}
use Rattle.m51_monitor.specs.Transfers.{Judges, moved}

-- The records at the reset, and those after each move that the table allows, where an interrupt interrupts at most one
-- other.
pub data AreReachedRecords (l : LayoutParts) : Records → Type 0 where
  AtReset : (root : ℕ) → IsRootAt l 0 root → AreReachedRecords l (started root)
  AfterMove : (m : Monitored) (cpu : Cpu) (e : Effect) (step : Move) → m.layout ≡ l → AreReachedRecords l m.records
      → latch e.cpu sp < 256 → HasLevel m step → Judges m.layout m.records cpu e (Ok step)
      → AreReachedRecords l (moved m.records e step)

-- at most one live segment covers a cell, there are no more return records than the limit, and SP of each is a byte
-- that is at least two above that of the one below
pub record AreBoundedRecords (l : LayoutParts) (a : Records) : Type 0 where
  pub one_live : OneLive l (live_in l a)
  pub few : length a.returns ≤ MOST_RETURN_RECORDS
  pub heights : HeightsRise a.returns

-- what holds of all records that a run over a sound layout can reach
abbrev pub RunsAreBounded : Type 0
RunsAreBounded = (l : LayoutParts) (a : Records) → IsSound l → AreReachedRecords l a → AreBoundedRecords l a

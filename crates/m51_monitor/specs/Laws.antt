-- What holds of all layouts and records.
use Rattle.std.specs.Prelude.{◌≡◌, ◌<◌, ℕ, ◌+◌, ◌%◌, Ok, List, ◌∷◌, drop}
use Rattle.m51_flat.specs.declared.state.Transfer.{Transfer}
use Rattle.m51_flat.specs.declared.state.Transfer.TheVariants.{Ret, Reti, Vector}
use Rattle.m51_cells.specs.declared.cell.Cell.{Cell}
use Rattle.m51_flat.specs.States.{CellState}
use Rattle.m51_module.specs.declared.parts.LayoutParts.{LayoutParts}
use Rattle.m51_module.specs.Sound.{IsSound}
use Rattle.m51_monitor.specs.Records.{Records, AreWalks, current, units_named}
use Rattle.m51_monitor.specs.Related.{OneLive}
use Rattle.m51_monitor.specs.Rising.{HaveLevels, HeightsRise, IsAbove, interrupts, levels, taken_after}
use Rattle.m51_monitor.specs.Shared.{Shared}
use Rattle.m51_monitor.specs.Stores.{Stores, Resolves, StandsFor, live_by}
use Rattle.m51_monitor.specs.declared.step.Move.{Move}
use Rattle.m51_monitor.specs.Monitored.{Monitored, AreActivations, HasLevel}
use Rattle.m51_module.specs.Plan.{IsUnitAt}
use Rattle.m51_monitor.specs.Transfers.{Judges, moved}
use Rattle.m51_flat.specs.Vectors.{vector_of}
use Rattle.m51_flat.specs.declared.state.Cpu.{Cpu}
use Rattle.m51_flat.specs.declared.state.Level.{Level}
use Rattle.m51_flat.specs.declared.state.Effect.{Effect}
use Rattle.m51_flat.specs.Sfr.{latch, sp}

-- at most one live segment covers a cell
abbrev pub OneLiveSegment : Type 0
OneLiveSegment = (l : LayoutParts) (a : Records) → IsSound l → AreWalks l a → OneLive l (live_by l (units_named a))

-- the separate stores give a cell one answer
abbrev pub OneCellAnswer : Type 0
OneCellAnswer = (l : LayoutParts) (a : Records) (s : Stores) (c : Cell) (x y : CellState) → IsSound l → AreWalks l a
    → Resolves l (live_by l (units_named a)) s c x → Resolves l (live_by l (units_named a)) s c y → x ≡ y

-- records that a run may have are such after each move that the table allows, where an interrupt interrupts at most one
abbrev pub MovesAreKept : Type 0
MovesAreKept = (m : Monitored) (cpu : Cpu) (e : Effect) (step : Move) → latch e.cpu sp < 256 → HasLevel m step
    → Judges m.layout m.records cpu e (Ok step)
    → AreActivations m.layout m.records → AreActivations m.layout (moved m.records e step)

-- a memory represents one state of the separate stores
abbrev pub OneState : Type 0
OneState = (l : LayoutParts) (a : Records) (m : Shared) (s t : Stores) → IsSound l → AreWalks l a
    → StandsFor l (live_by l (units_named a)) m s → StandsFor l (live_by l (units_named a)) m t → s ≡ t

-- the levels in progress after a transfer: a vectoring begins one above the others, a return from an interrupt ends the
-- uppermost
abbrev pub FollowsLevels : Transfer → List Level → List Level → Type 0
FollowsLevels Reti before after = after ≡ drop 1 before
FollowsLevels (Vector source) before after = (level : Level) × (after ≡ level ∷ before)
FollowsLevels other before after = after ≡ before

-- the interrupts that have records were taken at the levels in progress, after each move as before it
abbrev pub LevelsAreKept : Type 0
LevelsAreKept = (m : Monitored) (cpu : Cpu) (e : Effect) (step : Move) (taken : List Level)
    → Judges m.layout m.records cpu e (Ok step) → FollowsLevels e.transfer (levels cpu) (levels e.cpu)
    → HaveLevels m.records.returns taken (levels cpu)
    → HaveLevels (moved m.records e step).returns (taken_after m.records (levels e.cpu) step taken) (levels e.cpu)

-- the numbers of interrupts that have records before and after a transfer: a vectoring adds one, and a return from an
-- interrupt takes one away
abbrev pub CountsInterrupts : Transfer → ℕ → ℕ → Type 0
CountsInterrupts Reti before after = before ≡ after + 1
CountsInterrupts (Vector source) before after = after ≡ before + 1
CountsInterrupts other before after = after ≡ before

-- the interrupts that have records are counted by the transfers that the table allows
abbrev pub InterruptsAreCounted : Type 0
InterruptsAreCounted = (m : Monitored) (cpu : Cpu) (e : Effect) (step : Move)
    → Judges m.layout m.records cpu e (Ok step)
    → CountsInterrupts e.transfer (interrupts m.records.returns) (interrupts (moved m.records e step).returns)

-- a return takes two bytes off the stack
abbrev pub Pops : Transfer → ℕ → ℕ → Type 0
Pops Ret before after = after ≡ (before + 254) % 256
Pops Reti before after = after ≡ (before + 254) % 256
Pops other before after = Unit {0}

-- after each move SP is not below that of the topmost record
abbrev pub StackIsKept : Type 0
StackIsKept = (m : Monitored) (cpu : Cpu) (e : Effect) (step : Move) → Judges m.layout m.records cpu e (Ok step)
    → Pops e.transfer (latch cpu sp) (latch e.cpu sp) → HeightsRise m.records.returns
    → IsAbove (moved m.records e step).returns 0 (latch e.cpu sp)

-- a vectoring goes to the vector of its source
abbrev pub GoesToVector : Transfer → ℕ → Type 0
GoesToVector (Vector source) pc = pc ≡ vector_of source
GoesToVector other pc = Unit {0}

-- after each move the current unit covers PC
abbrev pub CoversIsKept : Type 0
CoversIsKept = (m : Monitored) (cpu : Cpu) (e : Effect) (step : Move) → IsSound m.layout
    → GoesToVector e.transfer e.cpu.pc → Judges m.layout m.records cpu e (Ok step)
    → IsUnitAt m.layout e.cpu.pc (current (moved m.records e step))

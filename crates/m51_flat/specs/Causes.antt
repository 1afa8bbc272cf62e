-- What the answers of an instruction name: a cell that exists, and holds no value or may not be written.
use Rattle.std.specs.Prelude.{◌≡◌, ◌⊎◌, ℕ, ◌<◌, Bool, true, false, if◌then◌else◌}
use Rattle.m51_cells.specs.declared.cell.Space.{Space}
use Rattle.m51_cells.specs.declared.cell.Space.TheVariants.{Ram, Xram, Code}
use Rattle.m51_cells.specs.declared.cell.Cell.{Cell}
use Rattle.m51_cells.specs.Cells.{IsDataCell}
use Rattle.m51_flat.specs.declared.state.Effect.{Effect}
use Rattle.m51_flat.specs.declared.state.NoEffect.{NoEffect}
use Rattle.m51_flat.specs.declared.state.NoEffect.TheVariants as lacks
use Rattle.m51_flat.specs.Outcome.{Outcome, Done, Outside, Unset, PowerDown}
use Rattle.m51_flat.specs.States.{CellState, States, Holds, Absent, Fresh}
use Rattle.m51_flat.specs.Reads.{CellMap}
use Rattle.m51_flat.specs.Sfr.{flag, pcon}

-- what a cell of that memory holds; program memory is no part of a store
abbrev pub state_at : States → Space → ℕ → CellState
state_at s Ram at = s.ram at
state_at s Xram at = s.xram at
state_at s Code at = Absent

-- the cell exists, and this is what it holds
abbrev pub IsCell : States → Cell → CellState → Type 0
IsCell s c state = IsDataCell c × (state_at s c.space c.at ≡ state)

-- a read without a value names a cell that is outside, or was never written
abbrev pub IsMissing : States → NoEffect → Type 0
IsMissing s (lacks.Outside c) = IsCell s c Absent
IsMissing s (lacks.Unset c) = IsCell s c Fresh
IsMissing s lacks.PowerDown = ⊥

-- the cell exists and may not be written
abbrev pub IsBarred : (Cell → Bool) → Cell → Type 0
IsBarred barred c = IsDataCell c × (barred c ≡ true)

-- so does an outcome that is no effect: its cell is outside or barred, or was never written
abbrev pub IsCause : States → (Cell → Bool) → Outcome → Type 0
IsCause s barred (Outside c) = IsCell s c Absent ⊎ IsBarred barred c
IsCause s barred (Unset c) = IsCell s c Fresh
IsCause s barred (Done e) = Unit {0}
IsCause s barred PowerDown = Unit {0}

-- each cell that exists holds the map's value, and none is barred
pub record IsWhole (s : States) (barred : Cell → Bool) (m : CellMap) : Type 0 where
  pub ram : (n : ℕ) → n < 2048 → s.ram n ≡ Holds (m.ram n)
  pub xram : (n : ℕ) → n < 65536 → s.xram n ≡ Holds (m.xram n)
  pub open_ : (c : Cell) → barred c ≡ false

-- an effect, or power-down where it would set bit 1 of PCON
abbrev pub unless_down : Effect → Outcome
unless_down e = if flag e.cpu pcon 1 then PowerDown else Done e

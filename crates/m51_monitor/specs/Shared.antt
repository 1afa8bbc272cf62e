-- One memory for all segments, with two masks: which cells are live, and which of them were written.
use Rattle.std.specs.Prelude.{◌≡◌, ◌+◌, ◌*◌, Bool, true, false, not}
use Rattle.m51_cells.specs.declared.cell.Cell.{Cell}
use Rattle.m51_cells.specs.declared.cell.Space.TheVariants.{Ram, Xram, Code}
use Rattle.m51_cells.specs.declared.extent.Extent.{Extent}
use Rattle.m51_cells.specs.Extent.{Covers, extent}
use Rattle.m51_flat.specs.declared.state.Put.{Put}
use Rattle.m51_flat.specs.declared.state.Put.TheVariants.{Nothing, Byte, Bit, Xbyte}
use Rattle.m51_flat.specs.Causes.{state_at}
use Rattle.m51_flat.specs.Flat.{FlatBytes, flat_cells}
use Rattle.m51_flat.specs.States.{CellState, States, Holds, Absent, Fresh}
use Rattle.m51_cells.specs.Cells.{IsDataCell}
use Rattle.m51_monitor.specs.Masks.{Mask, IsMask, flag_in, flag_of}

pub record Shared : Type 0 where
  pub memory : FlatBytes
  pub live : Mask
  pub written : Mask

-- there is a flag for each cell, and only live cells were written
pub record IsShared (m : Shared) : Type 0 where
  pub mask : IsMask m.live
  pub only_live : (c : Cell) → flag_of m.written c ≡ true → flag_of m.live c ≡ true

-- what a cell without a value holds
abbrev pub unwritten : CellState → CellState
unwritten (Holds v) = Fresh
unwritten Absent = Absent
unwritten Fresh = Fresh

-- what a cell holds that is live or not, and was written or not
abbrev pub masked : Bool → Bool → CellState → CellState
masked false written state = Absent
masked true false state = unwritten state
masked true true state = state

-- a cell that is not live is outside, and one that was not written holds no value
abbrev pub shared_cells : Shared → States
shared_cells m = record {
  ram = λ n. masked (flag_in m.live Ram n) (flag_in m.written Ram n) ((flat_cells m.memory).ram n);
  xram = λ n. masked (flag_in m.live Xram n) (flag_in m.written Xram n) ((flat_cells m.memory).xram n);
}

-- the cells that may not be written are those that are not live
abbrev pub shared_barred : Shared → Cell → Bool
shared_barred m c = not (flag_of m.live c)

-- what one cell holds
abbrev pub cell_state : Shared → Cell → CellState
cell_state m c = state_at (shared_cells m) c.space c.at

-- the cells of a put
abbrev pub cells_put : Put → Extent
cells_put Nothing = extent Code 0 0
cells_put (Byte address value) = extent Ram (8 * address) 8
cells_put (Bit address value) = extent Ram (256 + address) 1
cells_put (Xbyte address value) = extent Xram address 1

-- the cells of the extent hold this, and all others are as before
pub record IsTurned (e : Extent) (to : CellState) (old new : Shared) : Type 0 where
  pub inside : (c : Cell) → IsDataCell c → Covers e c → cell_state new c ≡ to
  pub outside : (c : Cell) → (Covers e c → ⊥) → cell_state new c ≡ cell_state old c

-- live and unset, or outside
abbrev pub turned_to : Bool → CellState
turned_to true = Fresh
turned_to false = Absent

-- a cell without a value stops a read
abbrev pub Blocks : CellState → Type 0
Blocks (Holds v) = ⊥
Blocks Absent = Unit {0}
Blocks Fresh = Unit {0}

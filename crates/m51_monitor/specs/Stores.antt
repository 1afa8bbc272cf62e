-- The separate stores: one for each segment, and one for the cells that no segment covers.
use Rattle.std.specs.Prelude.{◌≡◌, ℕ, ◌+◌, ◌%◌, Bool, true, false, not, ◌&&◌, ◌||◌, nat_le, nat_lt, Option, Some}
use Rattle.std.specs.Prelude.{None, List, slice_get, if◌then◌else◌}
use Rattle.std.specs.List.{list_any}
use Rattle.std.specs.Int.{bit_at}
use Rattle.m51_cells.specs.declared.cell.Cell.{Cell}
use Rattle.m51_cells.specs.declared.cell.Space.{Space}
use Rattle.m51_cells.specs.declared.cell.Space.TheVariants.{Ram, Xram, Code}
use Rattle.m51_cells.specs.declared.extent.Extent.{Extent}
use Rattle.m51_cells.specs.Extent.{Covers}
use Rattle.m51_module.specs.declared.parts.LayoutParts.{LayoutParts}
use Rattle.m51_module.specs.declared.placed.Mark.{Mark}
use Rattle.m51_module.specs.declared.placed.Mark.TheVariants.{Bank, Reserve, Absolute, Plain, Overlaid}
use Rattle.m51_module.specs.declared.placed.Placed.{Placed}
use Rattle.m51_module.specs.Cells.{extent_at}
use Rattle.m51_module.specs.Plan.{IsSegment, IsPlaced, owners_of}
use Rattle.m51_flat.specs.declared.state.Put.{Put}
use Rattle.m51_flat.specs.States.{CellState, Holds, Absent, Fresh}
use Rattle.m51_cells.specs.Cells.{IsDataCell}
use Rattle.m51_monitor.specs.Records.{is_unit_among}
use Rattle.m51_monitor.specs.Shared.{Shared, cell_state}
use Rattle.m51_flat.specs.States.{written_to}

-- the optional value of each cell in the store of each segment, and in the common store
pub record Stores : Type 0 where
  pub segment : ℕ → Cell → Option ℕ
  pub common : Cell → Option ℕ

-- the segment of that number, which is no bank and no reserve, covers the cell
pub record IsOver (l : LayoutParts) (t : ℕ) (c : Cell) : Type 0 where
  pub is : Placed
  pub placed : IsPlaced l t is
  pub segment : IsSegment is.mark
  pub covers : Covers (extent_at is) c

-- what a store's cell holds
abbrev pub held : Option ℕ → CellState
held None = Fresh
held (Some v) = Holds v

-- Which segments are live, by number.
abbrev pub Live : Type 0
Live = ℕ → Bool

-- What the separate stores answer in a cell: the live segment over it, or the common store where no segment is over it,
-- or else the cell is outside. In a sound layout, where the units of the records form walks, at most one live segment
-- is over a cell, so that no order among several is needed.
pub data Resolves (l : LayoutParts) (live : Live) (s : Stores) (c : Cell) (state : CellState) : Type 0 where
  InSegment : (t : ℕ) → IsOver l t c → live t ≡ true → state ≡ held (s.segment t c) → Resolves l live s c state
  InCommon : ((t : ℕ) → IsOver l t c → ⊥) → state ≡ held (s.common c) → Resolves l live s c state
  Nowhere : (t : ℕ) → IsOver l t c → ((t : ℕ) → IsOver l t c → live t ≡ true → ⊥) → state ≡ Absent
      → Resolves l live s c state

-- liveness as a test, by the units that are active
abbrev pub is_overlaid_mark : Mark → Bool
is_overlaid_mark Overlaid = true
is_overlaid_mark other = false

abbrev pub is_overlaid_at : Option Placed → Bool
is_overlaid_at None = false
is_overlaid_at (Some p) = is_overlaid_mark p.mark

abbrev pub has_active : List ℕ → List ℕ → Bool
has_active active owners = list_any (is_unit_among active) owners

abbrev pub live_by : LayoutParts → List ℕ → Live
live_by l active t = not (is_overlaid_at (slice_get l.placed t)) || has_active active (owners_of l.owners t)

-- the new value where there is one
abbrev pub over : Option ℕ → Option ℕ → Option ℕ
over None old = old
over (Some v) old = Some v

-- coverage as a test
abbrev pub is_segment : Mark → Bool
is_segment Bank = false
is_segment Reserve = false
is_segment Absolute = true
is_segment Plain = true
is_segment Overlaid = true

abbrev pub is_same_space : Space → Space → Bool
is_same_space Ram Ram = true
is_same_space Xram Xram = true
is_same_space Code Code = true
is_same_space space other = false

abbrev pub covers : Extent → Cell → Bool
covers e c = is_same_space c.space e.space && (nat_le e.first c.at && nat_lt c.at (e.first + e.len))

abbrev pub is_over : Placed → Cell → Bool
is_over p c = is_segment p.mark && covers (extent_at p) c

-- it is a cell of data memory
abbrev pub is_data_in : Space → ℕ → Bool
is_data_in Ram at = nat_lt at 2048
is_data_in Xram at = nat_lt at 65536
is_data_in Code at = false

abbrev pub is_data : Cell → Bool
is_data c = is_data_in c.space c.at

abbrev pub is_over_at : Option Placed → Cell → Bool
is_over_at None c = false
is_over_at (Some p) c = is_over p c

-- the segment of that number covers the cell of data memory
abbrev pub has_cell : LayoutParts → ℕ → Cell → Bool
has_cell l t c = is_data c && is_over_at (slice_get l.placed t) c

-- no segment covers it
abbrev pub is_common : LayoutParts → Cell → Bool
is_common l c = is_data c && not (list_any (λ p. is_over p c) l.placed)

-- the stores after a put: each cell that it writes, in the live segment over it, or in the common store
abbrev pub put_into : LayoutParts → Live → Put → Stores → Stores
put_into l live put s = record {
  segment = λ t c. if live t && has_cell l t c then over (written_to put c) (s.segment t c) else s.segment t c;
  common = λ c. if is_common l c then over (written_to put c) (s.common c) else s.common c;
}

-- the stores after segments turned live or died: those that are not live then are unset
abbrev pub unset_dead : Live → Stores → Stores
unset_dead live s = record {
  segment = λ t c. if live t then s.segment t c else None;
  common = s.common;
}

-- the fill: of a bit the one at its index in its byte
abbrev pub fill_in : ℕ → Space → ℕ → ℕ
fill_in fill Ram at = bit_at fill (at % 8)
fill_in fill Xram at = fill
fill_in fill Code at = fill

-- the stores at the start: the fill in each plain segment and in the common store, and overlaid segments unset
abbrev pub filled_stores : LayoutParts → ℕ → Stores
filled_stores l fill = record {
  segment = λ t c.
      if not (is_overlaid_at (slice_get l.placed t)) && has_cell l t c then Some (fill_in fill c.space c.at) else None;
  common = λ c. if is_common l c then Some (fill_in fill c.space c.at) else None;
}

abbrev pub IsSet : Option ℕ → Type 0
IsSet None = ⊥
IsSet (Some v) = Unit {0}

-- Each store has values at the cells that it covers and at no other; dead segments are unset; plain segments and the
-- common store are never unset.
pub record AreStores (l : LayoutParts) (live : Live) (s : Stores) : Type 0 where
  pub of_segment : (t : ℕ) (c : Cell) → has_cell l t c ≡ false → s.segment t c ≡ None
  pub of_common : (c : Cell) → is_common l c ≡ false → s.common c ≡ None
  pub dead : (t : ℕ) (c : Cell) → live t ≡ false → s.segment t c ≡ None
  pub plain : (t : ℕ) (c : Cell) → is_overlaid_at (slice_get l.placed t) ≡ false → has_cell l t c ≡ true
      → IsSet (s.segment t c)
  pub common : (c : Cell) → is_common l c ≡ true → IsSet (s.common c)

-- The one memory represents the separate stores: each of its cells holds what the cell resolves to. So the live mask
-- has the common cells and those that a live segment covers, the written mask has those of them whose resolved value is
-- set, and on these the memory has that value.
pub record StandsFor (l : LayoutParts) (live : Live) (m : Shared) (s : Stores) : Type 0 where
  pub stores : AreStores l live s
  pub cells : (c : Cell) → IsDataCell c → Resolves l live s c (cell_state m c)

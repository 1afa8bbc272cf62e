-- What the cells of a store hold, what a read of them answers, what a put writes, and which cells it may write.
use Rattle.std.specs.Prelude.{◌≡◌, ℕ, zero, suc, ◌+◌, ◌*◌, ◌/◌, ◌%◌, ◌<◌, ◌≤◌, Bool, Option, Some, None, nat_eq}
use Rattle.std.specs.Prelude.{if◌then◌else◌}
use Rattle.std.specs.Int.{bit_at}
use Rattle.m51_alu.specs.Arithmetic.{bit_of}
use Rattle.m51_cells.specs.declared.cell.Space.{Space}
use Rattle.m51_cells.specs.declared.cell.Space.TheVariants.{Ram, Xram, Code}
use Rattle.m51_cells.specs.declared.cell.Cell.{Cell}
use Rattle.m51_flat.specs.declared.state.Put.{Put}
use Rattle.m51_flat.specs.declared.state.Put.TheVariants.{Nothing, Byte, Bit, Xbyte}
use Rattle.m51_flat.specs.declared.state.Seen.{Seen}
use Rattle.m51_flat.specs.declared.state.Seen.TheVariants.{Value, Outside, Unset}

-- what a cell holds: a value, or it is outside the store, or it was never written
pub data CellState : Type 0 where
  Holds : ℕ → CellState
  Absent : CellState
  Fresh : CellState

-- the states of all cells: those of internal RAM by 8 * byte + bit, and those of external memory by address
pub record States : Type 0 where
  pub ram : ℕ → CellState
  pub xram : ℕ → CellState

-- a cell of internal RAM holds 0 or 1, and there are no cells past the end of a memory
pub record AreCells (s : States) : Type 0 where
  pub bits : (n v : ℕ) → s.ram n ≡ Holds v → v < 2
  pub ram_end : (n : ℕ) → 2048 ≤ n → s.ram n ≡ Absent
  pub xram_end : (n : ℕ) → 65536 ≤ n → s.xram n ≡ Absent

abbrev pub ram_cell : ℕ → Cell
ram_cell n = record { space = Ram; at = n }

abbrev pub xram_cell : ℕ → Cell
xram_cell n = record { space = Xram; at = n }

-- what a read of one cell answers
abbrev pub answered : Cell → CellState → Seen
answered c (Holds v) = Value v
answered c Absent = Outside c
answered c Fresh = Unset c

abbrev pub bit_seen : States → ℕ → Seen
bit_seen s n = answered (ram_cell n) (s.ram n)

abbrev pub xbyte_seen : States → ℕ → Seen
xbyte_seen s n = answered (xram_cell n) (s.xram n)

-- continues with the value that is seen, or answers why there is none
abbrev pub on_value : Seen → (ℕ → Seen) → Seen
on_value (Value v) go = go v
on_value (Outside c) go = Outside c
on_value (Unset c) go = Unset c

-- the number whose bits this many cells hold from cell `n` on, the lowest first; or the answer of the lowest that holds
-- none
abbrev pub bits_seen : States → ℕ → ℕ → Seen
bits_seen s zero n = Value 0
bits_seen s (suc k) n = on_value (bit_seen s n) (λ b. on_value (bits_seen s k (n + 1)) (λ v. Value (b + 2 * v)))

-- what a read of a byte of internal RAM answers
unfoldable pub byte_seen : States → ℕ → Seen
byte_seen s a = bits_seen s 8 (8 * a)

-- the value that a put writes into a cell of internal RAM, if it does
abbrev pub ram_written : Put → ℕ → Option ℕ
ram_written Nothing at = None
ram_written (Byte address value) at = if nat_eq (at / 8) address then Some (bit_at value (at % 8)) else None
ram_written (Bit address value) at = if nat_eq at (256 + address) then Some (bit_of value) else None
ram_written (Xbyte address value) at = None

-- the value that it writes into a cell of external memory
abbrev pub xram_written : Put → ℕ → Option ℕ
xram_written (Xbyte address value) at = if nat_eq at address then Some value else None
xram_written _ at = None

-- the value that it writes into a cell of a memory; program memory is never written
abbrev pub written_in : Put → Space → ℕ → Option ℕ
written_in put Ram at = ram_written put at
written_in put Xram at = xram_written put at
written_in put Code at = None

-- the value that a put writes into a cell, if it does
abbrev pub written_to : Put → Cell → Option ℕ
written_to put c = written_in put c.space c.at

-- what a cell holds after that
abbrev pub state_over : Option ℕ → CellState → CellState
state_over None old = old
state_over (Some v) old = Holds v

-- the states after a put: its cells hold what was put, and all others are as before
abbrev pub states_after : Put → States → States
states_after put s = record {
  ram = λ n. state_over (ram_written put n) (s.ram n);
  xram = λ n. state_over (xram_written put n) (s.xram n);
}

-- the lowest barred cell of internal RAM among this many from cell `n` on
abbrev pub first_barred : (Cell → Bool) → ℕ → ℕ → Option Cell
first_barred barred zero n = None
first_barred barred (suc k) n = if barred (ram_cell n) then Some (ram_cell n) else first_barred barred k (n + 1)

-- the lowest barred cell of a put, and none for a put of nothing
unfoldable pub shut_of : (Cell → Bool) → Put → Option Cell
shut_of barred Nothing = None
shut_of barred (Byte address value) = first_barred barred 8 (8 * address)
shut_of barred (Bit address value) = first_barred barred 1 (256 + address)
shut_of barred (Xbyte address value) = if barred (xram_cell address) then Some (xram_cell address) else None

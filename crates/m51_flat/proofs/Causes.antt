-- Reads without a value and puts that are shut name cells that exist.
use Rattle.m51_flat.proofs.Common.{◌≡◌, ℕ, zero, suc, ◌+◌, ◌*◌, ◌<◌, ◌≤◌, Bool, true, false, cond, Option, Some, None}
use Rattle.m51_flat.proofs.Common.{Result, refl, arith, Cell, NoEffect, Put, Nothing, Byte, Bit, Xbyte, Seen}
use Rattle.m51_flat.proofs.Common.{Value, States, CellState, Holds, Absent, Fresh, answered, bits_seen, on_value}
use Rattle.m51_flat.proofs.Common.{ram_cell, xram_cell, value_or_missing}
use Rattle.std.specs.Prelude.{IfErr, IfSome}
use Rattle.m51_flat.specs.declared.state.Seen.TheVariants.{Outside, Unset}
use Rattle.m51_flat.specs.States.{bit_seen, byte_seen}
use Rattle.m51_flat.specs.States.{first_barred, shut_of, xbyte_seen}
use Rattle.m51_cells.specs.Cells.{IsDataCell}
use Rattle.m51_flat.specs.Causes.{IsMissing, IsBarred, state_at}

-- a read that has no value names a cell that exists and holds none
abbrev pub Names : States → Seen → Type 0
Names s r = IfErr (value_or_missing r) (IsMissing s)

cell_names : (s : States) (cell : Cell) (c : CellState) → state_at s cell.space cell.at ≡ c → IsDataCell cell
    → Names s (answered cell c)
cell_names s cell (Holds v) e h = tt
cell_names s cell Absent e h = (h, e)
cell_names s cell Fresh e h = (h, e)

more_names : (s : States) (first rest : Seen) → Names s first → Names s rest
    → Names s (on_value first (λ b. on_value rest (λ v. Value (b + 2 * v))))
more_names s (Value b) (Value v) h k = tt
more_names s (Value b) (Outside c) h k = k
more_names s (Value b) (Unset c) h k = k
more_names s (Outside c) rest h k = h
more_names s (Unset c) rest h k = h

bits_names : (s : States) (k n : ℕ) → n + k ≤ 2048 → Names s (bits_seen s k n)
bits_names s zero n h = tt
bits_names s (suc k) n h =
    more_names s (bit_seen s n) (bits_seen s k (n + 1)) (cell_names s (ram_cell n) (s.ram n) refl (tt, omega arith))
    (bits_names s k (n + 1) (omega arith))

pub byte_missing : (s : States) (a : ℕ) (r : Result ℕ NoEffect) → a < 256 → r ≡ value_or_missing (byte_seen s a)
    → IfErr r (IsMissing s)
unfolding byte_seen
byte_missing s a r h e = rw e (bits_names s 8 (8 * a) (omega arith))

pub bit_missing : (s : States) (n : ℕ) (r : Result ℕ NoEffect) → n < 128 → r ≡ value_or_missing (bit_seen s (256 + n))
    → IfErr r (IsMissing s)
bit_missing s n r h e = rw e (cell_names s (ram_cell (256 + n)) (s.ram (256 + n)) refl (tt, omega arith))

pub xbyte_missing : (s : States) (a : ℕ) (r : Result ℕ NoEffect) → a < 65536 → r ≡ value_or_missing (xbyte_seen s a)
    → IfErr r (IsMissing s)
xbyte_missing s a r h e = rw e (cell_names s (xram_cell a) (s.xram a) refl (tt, h))

-- a put of cells that exist
abbrev pub Fits : Put → Type 0
Fits Nothing = Unit {0}
Fits (Byte address value) = address < 256
Fits (Bit address value) = address < 256
Fits (Xbyte address value) = address < 65536

tested : (barred : Cell → Bool) (c : Cell) (b : Bool) (rest : Option Cell) → barred c ≡ b
    → IfSome (Some c) (λ c. (barred c ≡ true) → IsBarred barred c) → IfSome rest (IsBarred barred)
    → IfSome (cond b (Some c) rest) (IsBarred barred)
tested barred c true rest e here there = here e
tested barred c false rest e here there = there

first_is_barred : (barred : Cell → Bool) (k n : ℕ) → n + k ≤ 2048 → IfSome (first_barred barred k n) (IsBarred barred)
first_is_barred barred zero n h = tt
first_is_barred barred (suc k) n h =
    let below : n < 2048 = omega arith in
    tested barred (ram_cell n) (barred (ram_cell n)) (first_barred barred k (n + 1)) refl (λ e. ((tt, below), e))
    (first_is_barred barred k (n + 1) (omega arith))

shut_is_barred : (barred : Cell → Bool) (put : Put) → Fits put → IfSome (shut_of barred put) (IsBarred barred)
unfolding shut_of
shut_is_barred barred Nothing h = tt
shut_is_barred barred (Byte address value) h = first_is_barred barred 8 (8 * address) (omega arith)
shut_is_barred barred (Bit address value) h = first_is_barred barred 1 (256 + address) (omega arith)
shut_is_barred barred (Xbyte address value) h =
    tested barred (xram_cell address) (barred (xram_cell address)) None refl (λ e. ((tt, h), e)) tt

-- the lowest barred cell of a put exists
pub shut_barred : (barred : Cell → Bool) (put : Put) (r : Option Cell) → Fits put → r ≡ shut_of barred put
    → IfSome r (IsBarred barred)
shut_barred barred put r h e = rw e (shut_is_barred barred put h)

-- The cells of flat memory are cells: bits in internal RAM, and none past the end of a memory.
use Rattle.std.specs.Prelude.{◌≡◌, ℕ, ◌/◌, ◌%◌, ◌<◌, Bool, true, false, nat_lt, if◌then◌else◌, slice_index}
use Rattle.std.specs.Int.{bit_at}
use Rattle.std.proofs.Common.{sym, ap, subst}
use Rattle.std.proofs.lemmas.Nat.Bits.{bit_at-lt}
use Rattle.std.proofs.lemmas.Bool.{le-ltb}
use Rattle.m51_flat.specs.States.{CellState, Holds, Absent, AreCells}
use Rattle.m51_flat.specs.Flat.{FlatBytes, flat_cells}

-- what a cell holds, or 0
abbrev held : CellState → ℕ
held (Holds v) = v
held _ = 0

-- the cell holds a value
abbrev HoldsValue : CellState → Type 0
HoldsValue (Holds v) = Unit {0}
HoldsValue _ = ⊥

bit_inside : (inside : Bool) (b v : ℕ) → b < 2 → (if inside then Holds b else Absent) ≡ Holds v → v < 2
bit_inside true b v h e = subst (λ n. n < 2) (ap held e) h
bit_inside false b v h e = absurd (subst HoldsValue (sym e) tt)

past_end : (c : CellState) (inside : Bool) → inside ≡ false → (if inside then c else Absent) ≡ Absent
past_end c inside e = ap (λ inside. if inside then c else Absent) e

pub flat_are_cells : (m : FlatBytes) → AreCells (flat_cells m)
flat_are_cells m = record {
  bits = λ n v e.
      let byte = slice_index m.ram (n / 8) in
      bit_inside (nat_lt n 2048) (bit_at byte (n % 8)) v (bit_at-lt byte (n % 8)) e;
  ram_end = λ n h. past_end (Holds (bit_at (slice_index m.ram (n / 8)) (n % 8))) (nat_lt n 2048) (le-ltb n 2048 h);
  xram_end = λ n h. past_end (Holds (slice_index m.xram n)) (nat_lt n 65536) (le-ltb n 65536 h);
}

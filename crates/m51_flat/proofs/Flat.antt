-- The cells of memory that holds a value in each of them.
use Rattle.m51_flat.proofs.Common.{◌≡◌, sym, ℕ, ◌/◌, ◌%◌, ◌<◌, Bool, true, false, cond, refl, ap, arith, slice_index}
use Rattle.m51_flat.proofs.Common.{bit_at, Put, Nothing, Byte, Bit, Xbyte, CellState, Holds, Absent, States, FlatBytes}
use Rattle.m51_flat.proofs.Common.{flat_cells}
use Rattle.std.proofs.Common.{nat_lt}
use Rattle.std.specs.Prelude.{None}
use Rattle.std.proofs.lemmas.Bool.{ltb-true}
use Rattle.m51_flat.specs.States.{shut_of}
use Rattle.m51_flat.specs.Flat.{filled_cells}

-- cells that hold the same are the same
pub same_states : (s t : States) → ((n : ℕ) → s.ram n ≡ t.ram n) → ((n : ℕ) → s.xram n ≡ t.xram n) → s ≡ t
same_states s t p q i = record { ram = λ n. p n i; xram = λ n. q n i }

same_inside : (inside : Bool) (c d : CellState) → (inside ≡ true → c ≡ d) → cond inside c Absent ≡ cond inside d Absent
same_inside inside c d h = grind arith

-- bytes that are all the fill make the cells that are filled
pub cells_filled : (m : FlatBytes) (fill : ℕ) → ((n : ℕ) → n < 256 → slice_index m.ram n ≡ fill)
    → ((n : ℕ) → n < 65536 → slice_index m.xram n ≡ fill) → flat_cells m ≡ filled_cells fill
cells_filled m fill ram xram =
    same_states (flat_cells m) (filled_cells fill)
    (λ n. same_inside (nat_lt n 2048) (Holds (bit_at (slice_index m.ram (n / 8)) (n % 8))) (Holds (bit_at fill (n % 8)))
    (λ e. let inside : n / 8 < 256 = omega (arith, ltb-true n 2048 e) in
    ap (λ b. Holds (bit_at b (n % 8))) (ram (n / 8) inside)))
    (λ n. same_inside (nat_lt n 65536) (Holds (slice_index m.xram n)) (Holds fill)
    (λ e. ap Holds (xram n (ltb-true n 65536 e))))

-- no put is shut where no cell is barred
pub none_shut : (put : Put) → None ≡ shut_of (λ cell. false) put
unfolding shut_of
none_shut Nothing = refl
none_shut (Byte address value) = refl
none_shut (Bit address value) = refl
none_shut (Xbyte address value) = refl

pub open_to_puts : (put : Put) → shut_of (λ cell. false) put ≡ None
open_to_puts put = sym (none_shut put)

-- The two readings of a plan, and plans one after another.
use Rattle.m51_flat.proofs.Common.{◌≡◌, ℕ, zero, suc, ◌+◌, ◌*◌, List, Result, refl, Seen}
use Rattle.m51_flat.proofs.Common.{Value, Cell, and_then, NoEffect, States, CellState, Holds, answered}
use Rattle.m51_flat.proofs.Common.{on_value, bits_seen, ram_cell, xram_cell, Access, Reads, Ends, Read}
use Rattle.m51_flat.proofs.Common.{value_or_missing, access_seen, CellMap, result_over, accesses_over, first_missing}
use Rattle.m51_flat.proofs.Common.{Agrees, arith}
use Rattle.m51_flat.specs.States.{byte_seen}
use Rattle.m51_flat.specs.Reads.{ByteAt, BitAt, XbyteAt, then_read}
use Rattle.m51_flat.specs.Reads.{answer, bits_in, access_value}
use Rattle.m51_flat.specs.Reads.{goes_on, up_to_missing}

bind_step : {A B : Type 0} (r : Result ℕ NoEffect) (f : ℕ → Result A NoEffect) (g h : A → Result B NoEffect)
    (k : ℕ → Result B NoEffect) → ((v : ℕ) → k v ≡ and_then (f v) g) → and_then r k ≡ and_then (and_then r f) g
bind_step r f g h k e = grind arith

-- a store's answer to one plan after another
pub answer_then : {A B : Type 0} (s : States) (p : Reads A) (go : A → Reads B)
    → answer s (then_read p go) ≡ and_then (answer s p) (λ a. answer s (go a))
answer_then s (Ends a) go = refl
answer_then s (Read x more) go =
    bind_step (value_or_missing (access_seen s x)) (λ v. answer s (more v)) (λ a. answer s (go a))
    (λ a. answer s (go a))
    (λ v. answer s (then_read (more v) go)) (λ v. answer_then s (more v) go)

one_read : {A : Type 0} (r : Seen) (m : ℕ) (f : ℕ → Result A NoEffect) (a : Result A NoEffect)
    → ((v : ℕ) → r ≡ Value v → m ≡ v) → f m ≡ a
    → and_then (value_or_missing r) f ≡ and_then (value_or_missing r) (λ v. a)
one_read r m f a agrees e = grind arith

-- one more bit is read as the map has it
more_bits : (c : CellState) (r : Seen) (x y : ℕ) (cell : Cell) → ((u : ℕ) → c ≡ Holds u → x ≡ u)
    → ((w : ℕ) → r ≡ Value w → y ≡ w) → (v : ℕ) → on_value (answered cell c) (λ b. on_value r (λ w. Value (b + 2 * w)))
    ≡ Value v → x + 2 * y ≡ v
more_bits c r x y cell here rest v e = grind arith

bits_agree : (s : States) (m : CellMap) → Agrees s m → (k n v : ℕ) → bits_seen s k n ≡ Value v → bits_in m k n ≡ v
bits_agree s m g zero n v e = cc e
bits_agree s m g (suc k) n v e =
    more_bits (s.ram n) (bits_seen s k (n + 1)) (m.ram n) (bits_in m k (n + 1)) (ram_cell n) (g.ram n)
    (bits_agree s m g k (n + 1)) v e

one_cell : (c : CellState) (x : ℕ) (cell : Cell) → ((u : ℕ) → c ≡ Holds u → x ≡ u) → (v : ℕ) → answered cell c ≡ Value v
    → x ≡ v
one_cell c x cell here v e = grind arith

-- where the store answers a read, the map has its value
value_agrees : (s : States) (m : CellMap) → Agrees s m → (x : Access) (v : ℕ) → access_seen s x ≡ Value v
    → access_value m x ≡ v
unfolding access_value byte_seen
value_agrees s m g (ByteAt a) v e = bits_agree s m g 8 (8 * a) v e
value_agrees s m g (BitAt n) v e = one_cell (s.ram (256 + n)) (m.ram (256 + n)) (ram_cell (256 + n)) (g.ram (256 + n)) v
    e
value_agrees s m g (XbyteAt a) v e = one_cell (s.xram a) (m.xram a) (xram_cell a) (g.xram a) v e

-- the two readings of a plan are one
pub readings : {A : Type 0} (p : Reads A) (s : States) (m : CellMap) → Agrees s m
    → answer s p ≡ first_missing s (accesses_over m p) (result_over m p)
readings (Ends a) s m g = refl
readings (Read x go) s m g =
    one_read (access_seen s x) (access_value m x) (λ v. answer s (go v))
    (first_missing s (accesses_over m (go (access_value m x))) (result_over m (go (access_value m x))))
    (value_agrees s m g x) (readings (go (access_value m x)) s m g)

goes_same : (r : Seen) (x : Access) (k k' : ℕ) (f f' : ℕ → List Access) → ((v : ℕ) → r ≡ Value v → k ≡ v)
    → ((v : ℕ) → r ≡ Value v → k' ≡ v) → ((v : ℕ) → f v ≡ f' v) → goes_on r x (f k) ≡ goes_on r x (f' k')
goes_same r x k k' f f' h h' same = grind arith

-- the reads up to the first that has no value are the same
pub same_accesses : {A : Type 0} (p : Reads A) (s : States) (m m' : CellMap) → Agrees s m → Agrees s m'
    → up_to_missing s (accesses_over m p) ≡ up_to_missing s (accesses_over m' p)
same_accesses (Ends a) s m m' g g' = refl
same_accesses (Read x go) s m m' g g' =
    goes_same (access_seen s x) x (access_value m x) (access_value m' x)
    (λ v. up_to_missing s (accesses_over m (go v))) (λ v. up_to_missing s (accesses_over m' (go v)))
    (value_agrees s m g x) (value_agrees s m' g' x) (λ v. same_accesses (go v) s m m' g g')

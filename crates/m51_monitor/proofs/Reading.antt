-- What the cells of a shared RAM answer, and what they are after a put.
use Rattle.std.proofs.lemmas.Grind.{common_steps}
use Rattle.m51_monitor.proofs.Common.{◌≡◌, ◌⊎◌, ℕ, zero, suc, ◌+◌, ◌*◌, ◌/◌, ◌%◌, ◌<◌, ◌≤◌, Bool, true, false, nat_lt}
use Rattle.m51_monitor.proofs.Common.{Some, None, refl, sym, ap, ◌∙◌, arith, slice_index}
use Rattle.m51_monitor.proofs.Common.{if◌then◌else◌, bit_at, lt-ltb, cases_lt, Cell, Space, Ram, Xram}
use Rattle.m51_monitor.proofs.Common.{Extent, Covers, flat_cells, CellState, Holds, Absent, Fresh}
use Rattle.m51_monitor.proofs.Common.{ram_cell, xram_cell, same_states, IsDataCell, IsCellAt, Mask, flag_in, flag_of}
use Rattle.m51_monitor.proofs.Common.{IsMarked, Shared, masked, shared_cells, shared_barred, IsTurned, turned_to}
use Rattle.m51_monitor.proofs.Common.{Option, inl, inr, eqb_tells, Put, state_over}
use Rattle.m51_flat.specs.declared.state.Seen.TheVariants.{Outside, Unset}
use Rattle.m51_flat.specs.Flat.{FlatBytes, filled_cells}
use Rattle.m51_flat.specs.States.{States, answered, bit_seen, bits_seen, byte_seen, xbyte_seen, first_barred}
use Rattle.m51_flat.specs.States.{states_after, shut_of, written_in}
use Rattle.m51_monitor.specs.Masks.{IsMask}
use Rattle.m51_monitor.specs.Shared.{IsShared, unwritten, Blocks, cells_put}
use Rattle.m51_alu.specs.Arithmetic.{bit_of}
use Rattle.m51_flat.specs.declared.state.Put.TheVariants.{Byte, Bit, Xbyte}
use Rattle.m51_module.specs.Sound.{IsInside}

-- only cells have flags
pub flag_is_of_cell : (m : Mask) → IsMask m → (s : Space) (n : ℕ) → flag_in m s n ≡ true → IsCellAt s n
flag_is_of_cell m is s n e = grind (arith, common_steps)

-- flat memory holds a value in each cell
pub flat_holds : (m : FlatBytes) (n : ℕ) → n < 2048
    → (flat_cells m).ram n ≡ Holds (bit_at (slice_index m.ram (n / 8)) (n % 8))
flat_holds m n h = rw (lt-ltb n 2048 h) refl

-- a cell that is not live
pub dead : (m : Shared) (n : ℕ) → flag_of m.live (ram_cell n) ≡ false → (shared_cells m).ram n ≡ Absent
dead m n e = rw e refl

fresh_state : (state : CellState) (v : ℕ) → state ≡ Holds v → unwritten state ≡ Fresh
fresh_state state v e = rw e refl

-- a live cell that was not written
pub fresh : (m : Shared) (n : ℕ) → n < 2048 → flag_of m.live (ram_cell n) ≡ true
    → flag_of m.written (ram_cell n) ≡ false → (shared_cells m).ram n ≡ Fresh
fresh m n h e f = rw (e, f)
    (fresh_state ((flat_cells m.memory).ram n) (bit_at (slice_index m.memory.ram (n / 8)) (n % 8))
    (flat_holds m.memory n h))

-- one that was
pub holds : (m : Shared) (n : ℕ) → flag_of m.live (ram_cell n) ≡ true → flag_of m.written (ram_cell n) ≡ true
    → (shared_cells m).ram n ≡ (flat_cells m.memory).ram n
holds m n e f = rw (e, f) refl

pub written : (m : Shared) (n : ℕ) → IsShared m → flag_of m.written (ram_cell n) ≡ true
    → (shared_cells m).ram n ≡ (flat_cells m.memory).ram n
written m n is e = holds m n (is.only_live (ram_cell n) e) e

pub xdead : (m : Shared) (n : ℕ) → flag_of m.live (xram_cell n) ≡ false
    → xbyte_seen (shared_cells m) n ≡ Outside (xram_cell n)
xdead m n e = rw e refl

pub xnew : (m : Shared) (n : ℕ) → n < 65536 → flag_of m.live (xram_cell n) ≡ true
    → flag_of m.written (xram_cell n) ≡ false → xbyte_seen (shared_cells m) n ≡ Unset (xram_cell n)
xnew m n h e f = grind arith

pub xhas : (m : Shared) (n : ℕ) → flag_of m.live (xram_cell n) ≡ true → flag_of m.written (xram_cell n) ≡ true
    → xbyte_seen (shared_cells m) n ≡ xbyte_seen (flat_cells m.memory) n
xhas m n e f = rw (e, f) refl

pub bit_value : (m : Shared) (n : ℕ) → (shared_cells m).ram n ≡ (flat_cells m.memory).ram n
    → bit_seen (shared_cells m) n ≡ bit_seen (flat_cells m.memory) n
bit_value m n e = ap (answered (ram_cell n)) e

-- the same cells give the same bits
bits_same : (s t : States) (k n : ℕ) → ((j : ℕ) → j < k → s.ram (n + j) ≡ t.ram (n + j))
    → bits_seen s k n ≡ bits_seen t k n
bits_same s t zero n h = refl
bits_same s t (suc k) n h =
    let here : n + 0 ≡ n = omega arith in
    let first = rw here at (h 0 (omega arith)) in
    let rest = bits_same s t k (n + 1) (λ j lt.
    grind (arith, h (suc j) (omega (arith, lt)))) in
    grind arith

-- bits up to the first that has no value
bits_until : (s : States) (f : ℕ → ℕ) (k n j : ℕ) → j < k → ((i : ℕ) → i < j → s.ram (n + i) ≡ Holds (f i))
    → Blocks (s.ram (n + j)) → bits_seen s k n ≡ answered (ram_cell (n + j)) (s.ram (n + j))
bits_until s f zero n j h ok b = absurd (omega (arith, h))
bits_until s f (suc k) n zero h ok b = grind arith
bits_until s f (suc k) n (suc j) h ok b =
    let here : n + 0 ≡ n = omega arith in
    let there : n + 1 + j ≡ n + suc j = omega arith in
    let first = rw here at (ok 0 (omega arith)) in
    let b' = rw (sym there) at b in
    let rest = bits_until s (λ i. f (suc i)) k (n + 1) j (omega (arith, h)) (grind arith) b' in
    grind arith

-- the first cells of a byte hold what flat memory holds
abbrev pub AreHeld : Shared → ℕ → ℕ → Type 0
AreHeld m a k = (j : ℕ) → j < k → (shared_cells m).ram (8 * a + j) ≡ (flat_cells m.memory).ram (8 * a + j)

-- all bits were written
pub byte_value : (m : Shared) (a : ℕ) → AreHeld m a 8 → byte_seen (shared_cells m) a ≡ byte_seen (flat_cells m.memory) a
unfolding byte_seen
byte_value m a all = bits_same (shared_cells m) (flat_cells m.memory) 8 (8 * a) all

-- all of them were written, as the mask says
pub byte_written : (m : Shared) (a : ℕ) → IsShared m
    → ((n : ℕ) → 8 * a ≤ n → n < 8 * a + 8 → flag_of m.written (ram_cell n) ≡ true)
    → byte_seen (shared_cells m) a ≡ byte_seen (flat_cells m.memory) a
byte_written m a is all =
    byte_value m a (grind (arith, written))

-- the first bit that has no value
pub byte_blocked : (m : Shared) (a k : ℕ) → a < 256 → k < 8 → AreHeld m a k → Blocks ((shared_cells m).ram (8 * a + k))
    → byte_seen (shared_cells m) a ≡ bit_seen (shared_cells m) (8 * a + k)
unfolding byte_seen
byte_blocked m a k fits lt all b =
    bits_until (shared_cells m) (λ j. bit_at (slice_index m.memory.ram ((8 * a + j) / 8)) ((8 * a + j) % 8)) 8 (8 * a) k
    lt
    (grind arith) b

-- the lowest cell that is not live
pub barred_at : (m : Shared) (count first k : ℕ) → first ≤ k → k < first + count
    → ((i : ℕ) → first ≤ i → i < k → flag_of m.live (ram_cell i) ≡ true) → flag_of m.live (ram_cell k) ≡ false
    → Some (ram_cell k) ≡ first_barred (shared_barred m) count first
barred_at m zero first k low high before here = grind arith
barred_at m (suc count) first k low high before here = grind (arith, cases_lt first k, barred_at m count)

pub barred_none : (m : Shared) (count first : ℕ)
    → ((i : ℕ) → first ≤ i → i < first + count → flag_of m.live (ram_cell i) ≡ true)
    → None ≡ first_barred (shared_barred m) count first
barred_none m zero first all = refl
barred_none m (suc count) first all =
    rw (all first (omega arith) (omega arith))
    (barred_none m count (first + 1) (grind arith))

-- memory that is all live and written holds what flat memory holds
pub filled_cells_are : (m : Shared) (fill : ℕ) → flat_cells m.memory ≡ filled_cells fill
    → ((c : Cell) → IsDataCell c → flag_of m.live c ≡ true) → ((c : Cell) → IsDataCell c → flag_of m.written c ≡ true)
    → shared_cells m ≡ filled_cells fill
filled_cells_are m fill e live written =
    same_states (shared_cells m) (flat_cells m.memory)
    (λ n. by_end n 2048 (flag_in m.live Ram n) (flag_in m.written Ram n)
    (Holds (bit_at (slice_index m.memory.ram (n / 8)) (n % 8))) (λ h. live (ram_cell n) (tt, h))
    (λ h. written (ram_cell n) (tt, h)))
    (λ n. by_end n 65536 (flag_in m.live Xram n) (flag_in m.written Xram n) (Holds (slice_index m.memory.xram n))
    (λ h. live (xram_cell n) (tt, h)) (λ h. written (xram_cell n) (tt, h)))
    ∙ e
  where
    past : (live written : Bool) → masked live written Absent ≡ Absent
    past false written = refl
    past true false = refl
    past true true = refl

    by_end : (n end : ℕ) (l w : Bool) (state : CellState) → (n < end → l ≡ true) → (n < end → w ≡ true)
        → masked l w (if nat_lt n end then state else Absent) ≡ (if nat_lt n end then state else Absent)
    by_end n end l w state live written = grind arith

pub filled_is_live : (live written : Mask) → IsMask written → ((c : Cell) → IsDataCell c → flag_of live c ≡ true)
    → (c : Cell) → flag_of written c ≡ true → flag_of live c ≡ true
filled_is_live live written is all c e = all c (grind (arith, flag_is_of_cell))

-- the cells of an extent after they were turned
pub turned_cells : (e : Extent) (on : Bool) (memory : FlatBytes) (live live' written written' : Mask)
    → IsMarked e on live live' → IsMarked e false written written'
    → IsTurned e (turned_to on) (record { memory = memory; live = live; written = written })
    (record { memory = memory; live = live'; written = written' })
turned_cells e on memory live live' written written' l w = record {
  inside = grind arith;
  outside = λ c out. grind (arith, l.outside c out, w.outside c out);
}

pub covers_or_not : (e : Extent) (c : Cell) → Covers e c ⊎ (Covers e c → ⊥)
covers_or_not e c = grind arith

-- only live cells are written, after some were turned
pub turned_lives : (e : Extent) (on : Bool) (live live' written written' : Mask) → IsMask written'
    → IsMarked e on live live' → IsMarked e false written written'
    → ((c : Cell) → flag_of written c ≡ true → flag_of live c ≡ true)
    → (c : Cell) → flag_of written' c ≡ true → flag_of live' c ≡ true
turned_lives e on live live' written written' is l w only c h = grind (arith, common_steps)

-- the cells of a put that is not shut are live
pub put_lives : (m : Shared) (put : Put) → shut_of (shared_barred m) put ≡ None → (c : Cell) → Covers (cells_put put) c
    → flag_of m.live c ≡ true
unfolding shut_of
put_lives m put e c h = grind arith

-- a put writes a value into a cell that it covers, and into no other
pub data Tells (put : Put) (c : Cell) (w : Option ℕ) : Type 0 where
  Inside : Covers (cells_put put) c → (v : ℕ) → w ≡ Some v → Tells put c w
  Beside : (Covers (cells_put put) c → ⊥) → w ≡ None → Tells put c w

pub put_tells : (put : Put) (s : Space) (n : ℕ) → Tells put (record { space = s; at = n }) (written_in put s n)
put_tells (Byte a v) Ram n = elim (eqb_tells (n / 8) a) [
  | inl t ↦ Inside (grind arith) (bit_at v (n % 8)) (cc)
  | inr t ↦ grind arith
]
put_tells (Bit a b) Ram n = elim (eqb_tells n (256 + a)) [
  | inl t ↦ Inside (grind arith) (bit_of b) (cc)
  | inr t ↦ grind arith
]
put_tells (Xbyte a v) Xram n = elim (eqb_tells n a) [
  | inl t ↦ Inside (grind arith) v (rw t.0 refl)
  | inr t ↦ grind arith
]
put_tells put s n = grind arith

-- one cell: a put that covers it finds it live and leaves it written, any other leaves its flags
over_masked : (put : Put) (c : Cell) (w : Option ℕ) (live written' written : Bool) (state : CellState) → Tells put c w
    → (Covers (cells_put put) c → live ≡ true) → (Covers (cells_put put) c → written' ≡ true)
    → ((Covers (cells_put put) c → ⊥) → written' ≡ written)
    → masked live written' (state_over w state) ≡ state_over w (masked live written state)
over_masked put c w live written' written state h7 alive set kept = grind arith

module _ (m : Shared) (put : Put) (memory' : FlatBytes) (written' : Mask) (open_ : shut_of (shared_barred m) put ≡ None)
    (mark : IsMarked (cells_put put) true m.written written') where
  abbrev new : Shared
  new = record { memory = memory'; live = m.live; written = written' }

  pub put_cells : flat_cells memory' ≡ states_after put (flat_cells m.memory)
      → ((c : Cell) → Covers (cells_put put) c → IsDataCell c) → shared_cells new ≡ states_after put (shared_cells m)
  put_cells e are =
      same_states (shared_cells new) (states_after put (shared_cells m))
      (λ n. ap (λ (s : States). masked (flag_in m.live Ram n) (flag_in written' Ram n) (s.ram n)) e
      ∙ over_masked put (ram_cell n) _ _ _ _ _ (put_tells put Ram n) (put_lives m put open_ _)
      (λ h. mark.inside _ (are _ h) h) (mark.outside _))
      (λ n. ap (λ (s : States). masked (flag_in m.live Xram n) (flag_in written' Xram n) (s.xram n)) e
      ∙ over_masked put (xram_cell n) _ _ _ _ _ (put_tells put Xram n) (put_lives m put open_ _)
      (λ h. mark.inside _ (are _ h) h) (mark.outside _))

  -- only live cells were written
  pub put_keeps_live : ((c : Cell) → flag_of m.written c ≡ true → flag_of m.live c ≡ true) → (c : Cell)
      → flag_of written' c ≡ true → flag_of m.live c ≡ true
  put_keeps_live only c h = elim (covers_or_not (cells_put put) c) [
    | inl k ↦ put_lives m put open_ c k
    | inr k ↦ only c (sym (mark.outside c k) ∙ h)
  ]

-- the cells of a put are cells of data memory
pub put_is_data : (put : Put) → IsInside (cells_put put) → (c : Cell) → Covers (cells_put put) c → IsDataCell c
put_is_data put inside c h = grind arith

-- Flags, eight to a byte, and masks after the cells of an extent are marked.
use Rattle.m51_monitor.proofs.Common.{◌≡◌, ◌≢◌, ◌⊎◌, inl, inr, ℕ, zero, suc, ◌+◌, ◌*◌, ◌/◌, ◌%◌, ◌<◌, ◌≤◌, Bool, true}
use Rattle.m51_monitor.proofs.Common.{false, nat_eq, List, [], ◌∷◌, length, refl, arith, get_or-set_same}
use Rattle.m51_monitor.proofs.Common.{get_or-set_other, slice_index, slice_index_or, slice_set, bit_at, length-set}
use Rattle.m51_monitor.proofs.Common.{AreSet, Cell, Ram, Xram, Code, Extent, Covers, IsDataCell, Mask, flag_of}
use Rattle.m51_monitor.proofs.Common.{IsMarked}
use Rattle.std.proofs.lemmas.Nat.Bits.{bit_at_ones}
use Rattle.m51_monitor.specs.Masks.{flag_at, flags_in}
use Rattle.m51_module.specs.Sound.{IsInside}
use Rattle.m51_module.proofs.CellLemmas.{inside_end}
use Rattle.m51_cells.specs.Cells.{cells_in}

pub length_flags : (bs : List ℕ) → length (flags_in bs) ≡ 8 * length bs
length_flags [] = refl
length_flags (b ∷ bs) = omega (arith, length_flags bs)

-- a flag that there is has its byte
pub byte_inside : (bs : List ℕ) (n : ℕ) → n < length (flags_in bs) → n / 8 < length bs
byte_inside bs n h = omega (arith, h, length_flags bs)

-- a flag is the bit at its index in its byte
pub flag_is : (bs : List ℕ) (n : ℕ) → slice_index_or (flags_in bs) n false ≡ flag_at (slice_index bs (n / 8)) (n % 8)
flag_is [] n = grind arith
flag_is (b ∷ bs) zero = refl
flag_is (b ∷ bs) (suc zero) = refl
flag_is (b ∷ bs) (suc (suc zero)) = refl
flag_is (b ∷ bs) (suc (suc (suc zero))) = refl
flag_is (b ∷ bs) (suc (suc (suc (suc zero)))) = refl
flag_is (b ∷ bs) (suc (suc (suc (suc (suc zero))))) = refl
flag_is (b ∷ bs) (suc (suc (suc (suc (suc (suc zero)))))) = refl
flag_is (b ∷ bs) (suc (suc (suc (suc (suc (suc (suc zero))))))) = refl
flag_is (b ∷ bs) (suc (suc (suc (suc (suc (suc (suc (suc n)))))))) = grind (arith, flag_is bs n)

-- all flags of a byte that is 255, and none of one that is 0
pub full : (k : ℕ) → k < 8 → flag_at 255 k ≡ true
full k h = cc (bit_at_ones 8 k h)

pub empty : (k : ℕ) → flag_at 0 k ≡ false
empty k = grind arith

pub full_byte : (bs : List ℕ) (byte : ℕ) → slice_index bs byte ≡ 255 → (n : ℕ) → 8 * byte ≤ n → n < 8 * byte + 8
    → slice_index_or (flags_in bs) n false ≡ true
full_byte bs byte e n low high = grind (arith, flag_is, full)

pub all_filled : (bs : List ℕ) (count b : ℕ) (value : Bool) → ((k : ℕ) → k < count → slice_index bs k ≡ b)
    → ((k : ℕ) → k < 8 → flag_at b k ≡ value) → (n : ℕ) → n < 8 * count → slice_index_or (flags_in bs) n false ≡ value
all_filled bs count b value each flag n h = grind (arith, flag_is, flag)

set_length : (bs : List ℕ) (at b : ℕ) → length (flags_in (slice_set bs at b)) ≡ length (flags_in bs)
set_length bs at b = grind (arith, length_flags, length-set)

module _ (bs : List ℕ) (at b : ℕ) (inside : at < length bs) where
  set_here : (n : ℕ) → n / 8 ≡ at → slice_index_or (flags_in (slice_set bs at b)) n false ≡ flag_at b (n % 8)
  set_here n e = grind (arith, flag_is, get_or-set_same)

  set_beside : (n : ℕ) → n / 8 ≢ at → slice_index_or (flags_in (slice_set bs at b)) n false
      ≡ slice_index_or (flags_in bs) n false
  set_beside n ne = grind (arith, flag_is, get_or-set_other)

-- the bytes of a row are replaced by one
pub bytes_set : (bs new : List ℕ) (from to b : ℕ) (value : Bool) → ((k : ℕ) → k < 8 → flag_at b k ≡ value)
    → length new ≡ length bs
    → ((i : ℕ) → from ≤ i → i < to → slice_index new i ≡ b)
    → ((i : ℕ) → i < from → slice_index new i ≡ slice_index bs i)
    → ((i : ℕ) → to ≤ i → slice_index new i ≡ slice_index bs i)
    → AreSet (8 * from) (8 * to) value (flags_in bs) (flags_in new)
bytes_set bs new from to b value each len here below above = grind (arith, length_flags, flag_is)

-- a bit is replaced
pub bit_set : (bs : List ℕ) (index b : ℕ) (value : Bool) → index / 8 < length bs → flag_at b (index % 8) ≡ value
    → ((k : ℕ) → k < 8 → k ≢ index % 8 → bit_at b k ≡ bit_at (slice_index bs (index / 8)) k)
    → AreSet index (index + 1) value (flags_in bs) (flags_in (slice_set bs (index / 8) b))
bit_set bs index b value inside here other = record {
  len = set_length bs (index / 8) b;
  inside = grind (arith, set_here);
  outside = λ n out. by_byte n
      (grind arith)
      (grind arith);
}
  where
    by_byte : (n : ℕ) → (n ≡ index → ⊥)
        → ((nat_eq (n / 8) (index / 8) ≡ true) × (n / 8 ≡ index / 8)) ⊎
        ((nat_eq (n / 8) (index / 8) ≡ false) × (n / 8 ≢ index / 8))
        → slice_index_or (flags_in (slice_set bs (index / 8) b)) n false ≡ slice_index_or (flags_in bs) n false
    by_byte n ne (inl t) = grind (arith, set_here, flag_is)
    by_byte n ne (inr t) = grind (arith, set_beside)

-- nothing was set yet
pub none_set : (index : ℕ) (value : Bool) (flags : List Bool) → AreSet index index value flags flags
none_set index value flags = grind arith

-- a row after a row
pub then_set : (from mid to : ℕ) (value : Bool) (a b c : List Bool) → from ≤ mid → mid ≤ to → AreSet from mid value a b
    → AreSet mid to value b c → AreSet from to value a c
then_set from mid to value a b c low high one two = grind arith

-- all flags are set so
pub all_set : (ram xram : List Bool) (value : Bool) → ((n : ℕ) → n < 2048 → slice_index_or ram n false ≡ value)
    → ((n : ℕ) → n < 65536 → slice_index_or xram n false ≡ value)
    → (c : Cell) → IsDataCell c → flag_of (record { ram = ram; xram = xram }) c ≡ value
all_set ram xram value r x c h = grind arith

-- an extent that is not empty ends inside its memory
pub ends_inside : (e : Extent) → IsInside e → e.len ≢ 0 → e.first + e.len ≤ cells_in e.space
ends_inside e inside some = grind (arith, inside_end)

-- the cell is before or after those of the extent
beside : (e : Extent) (c : Cell) → c.space ≡ e.space → (Covers e c → ⊥) → (c.at < e.first) ⊎ (e.first + e.len ≤ c.at)
beside e c same out = grind arith

pub on_ram : (e : Extent) (value : Bool) (ram xram new : List Bool) → e.space ≡ Ram
    → AreSet e.first (e.first + e.len) value ram new
    → IsMarked e value (record { ram = ram; xram = xram }) (record { ram = new; xram = xram })
on_ram e value ram xram new space set = grind arith

pub on_xram : (e : Extent) (value : Bool) (ram xram new : List Bool) → e.space ≡ Xram
    → AreSet e.first (e.first + e.len) value xram new
    → IsMarked e value (record { ram = ram; xram = xram }) (record { ram = ram; xram = new })
on_xram e value ram xram new space set = grind arith

pub on_code : (e : Extent) (value : Bool) (m : Mask) → e.space ≡ Code → IsMarked e value m m
on_code e value m space = grind arith

pub none_marked : (e : Extent) (value : Bool) (m : Mask) → e.len ≡ 0 → IsMarked e value m m
none_marked e value m none = grind arith

-- What the data of a record leave in a memory.
use Rattle.std.proofs.Common.{◌≡◌, ℕ, ◌+◌, ◌-◌, ◌<◌, ◌≤◌, cond, leb, ltb, ◌&&◌, List, length, slice_index, set, refl}
use Rattle.std.proofs.Common.{inl, inr, ap, ◌∙◌, arith}
use Rattle.std.proofs.lemmas.Bool.{cases_lt, cases_eq, le-leb}
use Rattle.std.proofs.lemmas.Bool.Decides.{nat_tests}
use Rattle.std.proofs.lemmas.List.{get_or_default, get_or_past, get_or-set_same, get_or-set_other}
use Rattle.m51_module.specs.Image.{IsBlank}
use Rattle.m51_hex.specs.Memory.{Memory, memory_in, erased, stored}
use Rattle.m51_hex.specs.Record.{HexRecord}

-- memories that agree at each address are one
pub same_memory : (m n : Memory) → ((address : ℕ) → m address ≡ n address) → m ≡ n
same_memory m n h = λ i. λ address. h address i

-- a blank image fills an erased memory
pub memory_in-blank : (image : List ℕ) → IsBlank image → memory_in image ≡ erased
memory_in-blank image blank = same_memory (memory_in image) erased (λ address. grind (
  arith,
  cases_lt address 65536,
  get_or_default image address 255 0,
  get_or_past image address 255,
  blank.len,
  blank.each address,
))

-- after the data nothing changes
pub stored_after : (m : Memory) (r : HexRecord) (address : ℕ) → r.address + length r.bytes ≤ address
    → stored m r address ≡ m address
unfolding stored
stored_after m r address beyond = grind (arith, nat_tests)

-- the memory after the first `count` bytes of a record are put at its address
abbrev pub filled : Memory → HexRecord → ℕ → Memory
filled m r count = λ address.
    cond (leb r.address address && ltb address (r.address + count)) (slice_index r.bytes (address - r.address))
    (m address)

pub filled_none : (m : Memory) (r : HexRecord) → m ≡ filled m r 0
filled_none m r = same_memory m (filled m r 0) (λ address. grind (arith, nat_tests))

pub filled_whole : (m : Memory) (r : HexRecord) (count : ℕ) → count ≡ length r.bytes → filled m r count ≡ stored m r
unfolding stored
filled_whole m r count e = rw e refl

-- one more byte
pub filled_more : (image : List ℕ) (m : Memory) (r : HexRecord) (count : ℕ) → length image ≡ 65536
    → r.address + count < 65536 → memory_in image ≡ filled m r count
    → memory_in (set image (r.address + count) (slice_index r.bytes count)) ≡ filled m r (count + 1)
filled_more image m r count whole within so_far =
    same_memory (memory_in (set image (r.address + count) (slice_index r.bytes count))) (filled m r (count + 1))
    (λ address. at address (ap (λ (n : Memory). n address) so_far)) where
      at : (address : ℕ) → memory_in image address ≡ filled m r count address
          → memory_in (set image (r.address + count) (slice_index r.bytes count)) address
          ≡ filled m r (count + 1) address
      at address h = elim (cases_eq address (r.address + count)) [
        | inl here ↦
            (let same : address - r.address ≡ count = omega arith in
            rw (here, le-leb r.address (r.address + count) (omega arith))
            (get_or-set_same image (r.address + count) (slice_index r.bytes count) 255 (omega arith)
            ∙ grind (arith, nat_tests)))
        | inr other ↦ get_or-set_other image (r.address + count) address (slice_index r.bytes count) 255 other
            ∙ h ∙ grind (arith, nat_tests)
      ]

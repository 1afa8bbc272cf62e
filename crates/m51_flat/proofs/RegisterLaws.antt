-- Registers that devices store to.
use Rattle.m51_flat.proofs.Common.{◌≡◌, ◌≢◌, ℕ, ◌-◌, ◌≤◌, ◌<◌, true, cond, length, ap, arith}
use Rattle.m51_flat.proofs.Common.{eqb_tells, Cpu}
use Rattle.std.proofs.Common.{slice_set}
use Rattle.std.proofs.Common.{inl, inr, refl}
use Rattle.std.proofs.lemmas.List.{get_or-set_other, get_or-set_same}
use Rattle.m51_flat.specs.DeviceLaws.{RegistersAreWritten}
use Rattle.m51_flat.specs.Sfr.{has_register, latch, with_latch}

-- a register that exists is replaced in the list
store_is : (cpu : Cpu) (a v : ℕ) → has_register a ≡ true
    → ◌≡◌ {A = Cpu} (with_latch cpu a v) (record cpu { regs = slice_set cpu.regs (a - 128) v })
unfolding with_latch
store_is cpu a v h = rw h refl

same : (cpu : Cpu) (a v : ℕ) → has_register a ≡ true → a - 128 < length cpu.regs
    → latch (record cpu { regs = slice_set cpu.regs (a - 128) v }) a ≡ v
unfolding latch
same cpu a v h i = rw h (get_or-set_same cpu.regs (a - 128) v 0 i)

pub other : (cpu : Cpu) (a b v : ℕ) → b - 128 ≢ a - 128
    → latch (record cpu { regs = slice_set cpu.regs (a - 128) v }) b ≡ latch cpu b
unfolding latch
other cpu a b v ne = ap (λ x. cond (has_register b) x 0) (get_or-set_other cpu.regs (a - 128) (b - 128) v 0 ne)

pub apart : (a b : ℕ) → 128 ≤ a → 128 ≤ b → b ≢ a → b - 128 ≢ a - 128
apart a b h k ne e = ne (omega (arith, h, k, e))

pub registers_are_written : RegistersAreWritten
registers_are_written cpu a b v n h low high far = elim (eqb_tells b a) [
  | inl t ↦ rw (t.0, t.1, store_is cpu a v h) (same cpu a v h (omega arith))
  | inr t ↦ rw (t.0, store_is cpu a v h) (other cpu a b v (apart a b low far t.1))
]

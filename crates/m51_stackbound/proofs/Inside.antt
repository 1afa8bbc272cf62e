-- Bytes of an instruction in its unit, and vectors of interrupts.
use Rattle.m51_stackbound.proofs.Common.{◌≡◌, ℕ, zero, suc, ◌+◌, ◌<◌, false, length, get_or, arith}
use Rattle.m51_stackbound.proofs.Common.{Contains, LayoutParts, vectors, interrupts}
use Rattle.std.proofs.Common.{◌%◌}
use Rattle.std.proofs.lemmas.Bool.{cases_eq}
use Rattle.m51_stackbound.specs.Units.{in_one_unit, lie_inside}

-- one byte outside is enough
pub one_outside : (layout : LayoutParts) (at index count : ℕ) → index < count
    → in_one_unit layout at ((at + index) % 65536) ≡ false → lie_inside layout at count ≡ false
one_outside layout at index zero h e = absurd (omega (arith, h))
one_outside layout at index (suc count) h e = grind (arith, cases_eq, one_outside layout at index count)

-- an interrupt begins at a vector
pub interrupt_is_vector : (i d : ℕ) → i < length interrupts → Contains vectors (get_or interrupts i d)
interrupt_is_vector i d below = (suc i, omega (arith, below), grind arith)

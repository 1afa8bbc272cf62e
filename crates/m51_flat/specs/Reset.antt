-- The processor after a reset, from the family manual.
use Rattle.std.specs.Prelude.{ℕ, zero, suc, ◌+◌, false, ◌==◌, if◌then◌else◌, List, [], ◌∷◌}
use Rattle.m51_flat.specs.declared.state.Cpu.{Cpu}
use Rattle.m51_flat.specs.Sfr.{is_one_of, p0, p1, p2, p3, sp}

-- SP is 07H, the latches of the ports are FFH, and all else is 0
abbrev pub reset_value : ℕ → ℕ
reset_value a = if a == sp then 0x07 else (if is_one_of (p0 ∷ p1 ∷ p2 ∷ p3 ∷ []) a then 0xFF else 0)

-- the values after a reset of a number of registers, from an address on
abbrev pub reset_values : ℕ → ℕ → List ℕ
reset_values zero a = []
reset_values (suc k) a = reset_value a ∷ reset_values k (a + 1)

abbrev pub reset_cpu : Cpu
reset_cpu = record { pc = 0; regs = reset_values 128 0x80; low = false; high = false; held = false }

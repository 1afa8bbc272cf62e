-- The rows of the code's table (src/table.rt).
use Rattle.std.specs.Prelude.{ℕ, List, map}
use Rattle.std.specs.Borrow.{Bor}
use Rattle.m51_sfr.specs.Registers.{Register, register, row}
use Rattle.m51_sfr.specs.declared.table.TheConstants.{REGISTERS}

-- a bit: its name and number
abbrev pub CodedBit : Type 0
CodedBit = Bor (List ℕ) × ℕ

-- a register: its name, its address and its bits
abbrev pub CodedRow : Type 0
CodedRow = Bor (List ℕ) × ℕ × Bor (List CodedBit)

-- the register of a row
abbrev pub register_in : CodedRow → Register
register_in r = register r.0.now r.1 (map (λ b. row b.0.now b.1) r.2.now)

-- the registers of the table
abbrev pub coded : List Register
coded = map (λ r. register r.0.now r.1 (map (λ b. row b.0.now b.1) r.2.now)) REGISTERS

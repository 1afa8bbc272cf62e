-- What the tables of predefined names promise.
use Rattle.std.specs.Prelude.{◌≡◌, ℕ, ◌+◌, ◌-◌, ◌%◌, ◌<◌, true, false, List, ◌++◌, All, Some}
use Rattle.std.specs.Prelude.{None, Ok}
use Rattle.m51_cells.specs.Name.{IsWritten}
use Rattle.m51_cells.specs.declared.kind.Kind.TheVariants as kind
use Rattle.m51_expr.specs.Words.{is_reserved}
use Rattle.m51_expr.specs.Value.{plain, bit_address}
use Rattle.m51_expr.specs.Meanings.{Meanings}
use Rattle.m51_expr.specs.Bits.{dotted_bit}
use Rattle.m51_sfr.specs.Registers.{Register, Row, bits, has_register, registers, table}
use Rattle.m51_predefined.specs.Predefined.{predefined_of}

-- a source can write the name, and a module may define it
pub record IsFree (name : List ℕ) : Type 0 where
  pub written : IsWritten name
  pub free : is_reserved name ≡ false

-- all names of the tables
abbrev pub NamesAreFree : Type 0
NamesAreFree = All (λ r. IsFree r.name) (registers ++ bits)

-- the name of each row has the value of the row
pub record RowsAreRead : Type 0 where
  pub register : All (λ r. predefined_of r.name ≡ Some (plain r.address kind.Direct)) registers
  pub bit : All (λ r. predefined_of r.name ≡ Some (plain r.address kind.Bits)) bits

-- a reserved word, as AR0, is not predefined
abbrev pub ReservedStandForNothing : Type 0
ReservedStandForNothing = (word : List ℕ) → is_reserved word ≡ true → predefined_of word ≡ None

-- A register at a multiple of 8 has eight bits with the addresses from its own upward. The dot gives the value that the
-- name of the bit means.
pub record HasBits (r : Register) : Type 0 where
  pub named : All (λ (b : Row). b.address < 8) r.bits
  pub addresses : (bit : ℕ) → bit < 8 → bit_address r.address bit ≡ Some (r.address + bit)
  pub dot : (names : Meanings) (bit : ℕ) → bit < 8
      → dotted_bit names (plain r.address kind.Direct) bit ≡ Ok (plain (r.address + bit) kind.Bits)

-- all such registers
abbrev pub BytesHaveBits : Type 0
BytesHaveBits = All (λ r. r.address % 8 ≡ 0 → HasBits r) table

-- the assembler knows the registers of the machine, and no others
pub record NamesAreRegisters : Type 0 where
  -- the machine has a register at the address of each name, and at that of the byte of each named bit
  pub register : (name : List ℕ) (a : ℕ) → predefined_of name ≡ Some (plain a kind.Direct) → has_register a ≡ true
  pub bit : (name : List ℕ) (a : ℕ) → predefined_of name ≡ Some (plain a kind.Bits) → has_register (a - a % 8) ≡ true
  -- each register of the machine has a name
  pub named : (a : ℕ) → has_register a ≡ true → (name : List ℕ) × predefined_of name ≡ Some (plain a kind.Direct)

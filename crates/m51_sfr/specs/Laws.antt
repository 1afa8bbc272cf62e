-- What the table of the registers promises.
use Rattle.std.specs.Prelude.{◌≡◌, ◌≢◌, ◌<◌, ◌≤◌, ◌∷◌, [], ◌++◌, All, codes}
use Rattle.std.specs.List.{AllPairs}
use Rattle.m51_sfr.specs.Manual.{manual}
use Rattle.m51_sfr.specs.Registers.{Row, bits, registers, row, table, unwritable_among}
use Rattle.m51_sfr.specs.Coded.{coded}
use Rattle.m51_sfr.specs.declared.bits.TheConstants.{CPRL2, CT2}

-- The code's table is the manual's: the same registers in the same order, each with its address, its named bits and
-- their numbers; and so are the numbers of the two bits that no source can name.
pub record TableIsTheManuals : Type 0 where
  pub rows : coded ≡ table
  pub unwritable : row (codes "CP/RL2") CPRL2 ∷ row (codes "C/T2") CT2 ∷ [] ≡ unwritable_among manual

-- no two rows have the same name
abbrev pub NamesDiffer : Type 0
NamesDiffer = AllPairs (λ r s. r.name ≢ s.name) (registers ++ bits)

-- No two registers have the same address, and no two bits: the tables go by ascending addresses, from 80H to 0FFH.
pub record AddressesDiffer : Type 0 where
  pub register : AllPairs (λ (r s : Row). r.address < s.address) registers
  pub bit : AllPairs (λ (r s : Row). r.address < s.address) bits
  pub special : All (λ r. (0x80 ≤ r.address) × (r.address ≤ 0xFF)) (registers ++ bits)

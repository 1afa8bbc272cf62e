-- What the manual's map of the special function registers says, by name and by address.
use Rattle.std.specs.Prelude.{ℕ, ◌+◌, ◌%◌, Bool, true, false, not, ◌||◌, ◌==◌, if◌then◌else◌, List, [], ◌∷◌, ◌++◌}
use Rattle.std.specs.Prelude.{map, reverse, filter, Option, Some, None}
use Rattle.std.specs.Str.{bytes_eq}
use Rattle.m51_sfr.specs.Manual.{Printed, manual}

-- a name, and the address that it means; or that of a bit, and its number
pub record Row : Type 0 where
  pub name : List ℕ
  pub address : ℕ

-- the row of a name and an address
abbrev pub row : List ℕ → ℕ → Row
row name address = record { name = name; address = address }

-- the address of the row with this name, if there is one
abbrev pub address_in : List Row → List ℕ → Option ℕ
address_in [] name = None
address_in (r ∷ more) name = if bytes_eq r.name name then Some r.address else address_in more name

-- a register: its name, its direct address, and the names of its bits with their numbers, from bit 0 upward
pub record Register : Type 0 where
  pub name : List ℕ
  pub address : ℕ
  pub bits : List Row

abbrev pub register : List ℕ → ℕ → List Row → Register
register name address bits = record { name = name; address = address; bits = bits }

-- the names of bits with their numbers, counted from this one; a bit without a name has no row
abbrev pub numbered_bits : ℕ → List (List ℕ) → List Row
numbered_bits k [] = []
numbered_bits k ([] ∷ more) = numbered_bits (k + 1) more
numbered_bits k ((c ∷ cs) ∷ more) = row (c ∷ cs) k ∷ numbered_bits (k + 1) more

-- all named bits of a register
abbrev pub printed_bits : Printed → List Row
printed_bits p = numbered_bits 0 (reverse p.bits)

-- the name has no `/`, which no source can write in a name
abbrev pub is_writable : List ℕ → Bool
is_writable [] = true
is_writable (c ∷ more) = if c == 0x2F then false else is_writable more

-- a register with those bits that a source can name
abbrev pub register_of : Printed → Register
register_of p = register p.name p.address (filter (λ (b : Row). is_writable b.name) (printed_bits p))

-- the bits that no source can name
abbrev pub unwritable_among : List Printed → List Row
unwritable_among [] = []
unwritable_among (p ∷ more) = filter (λ (b : Row). not (is_writable b.name)) (printed_bits p) ++ unwritable_among more

-- all registers
unfoldable pub table : List Register
table = map register_of manual

-- the address of a bit is that of its register plus its number
abbrev pub bit_row : ℕ → Row → Row
bit_row address b = row b.name (address + b.address)

-- the bits of a register have addresses where its own is a multiple of 8
abbrev pub bits_of : Register → List Row
bits_of r = if r.address % 8 == 0 then map (bit_row r.address) r.bits else []

abbrev pub bits_among : List Register → List Row
bits_among [] = []
bits_among (r ∷ more) = bits_of r ++ bits_among more

-- the registers with their direct addresses
unfoldable pub registers : List Row
registers = map (λ (r : Register). row r.name r.address) table

-- the named bits with their bit addresses
unfoldable pub bits : List Row
bits = bits_among table

abbrev pub is_one_of : List ℕ → ℕ → Bool
is_one_of [] a = false
is_one_of (x ∷ xs) a = a == x || is_one_of xs a

-- a register has this address
unfoldable pub has_register : ℕ → Bool
has_register a = is_one_of (map (λ (p : Printed). p.address) manual) a

-- What an instruction reads, in order, and its result: a tree of reads, over a store and over a map.
use Rattle.std.specs.Prelude.{◌≡◌, ℕ, zero, suc, ◌+◌, ◌*◌, List, [], ◌∷◌, Result, Ok, Err}
use Rattle.m51_cells.specs.Outcome.{and_then}
use Rattle.m51_flat.specs.declared.state.Seen.{Seen}
use Rattle.m51_flat.specs.declared.state.Seen.TheVariants.{Value, Outside as SeenOutside, Unset as SeenUnset}
use Rattle.m51_flat.specs.declared.state.NoEffect.{NoEffect}
use Rattle.m51_flat.specs.declared.state.NoEffect.TheVariants.{Outside, Unset}
use Rattle.m51_flat.specs.States.{States, Holds, byte_seen, bit_seen, xbyte_seen}

-- a read of a byte of internal RAM, of a bit of it by bit address, or of a byte of external memory
pub data Access : Type 0 where
  ByteAt : ℕ → Access
  BitAt : ℕ → Access
  XbyteAt : ℕ → Access

-- reads, each of which may depend on the values of those before it, and then a result
pub data Reads (A : Type 0) : Type 0 where
  Ends : A → Reads A
  Read : Access → (ℕ → Reads A) → Reads A

-- more reads after these
abbrev pub then_read : {A B : Type 0} → Reads A → (A → Reads B) → Reads B
then_read (Ends a) go = go a
then_read (Read x more) go = Read x (λ v. then_read (more v) go)

-- what a store answers to one read
abbrev pub access_seen : States → Access → Seen
access_seen s (ByteAt a) = byte_seen s a
access_seen s (BitAt n) = bit_seen s (256 + n)
access_seen s (XbyteAt a) = xbyte_seen s a

-- the value that is seen, or why there is none
abbrev pub value_or_missing : Seen → Result ℕ NoEffect
value_or_missing (Value v) = Ok v
value_or_missing (SeenOutside c) = Err (Outside c)
value_or_missing (SeenUnset c) = Err (Unset c)

-- over a store: the result, or the answer to the first read that has no value
abbrev pub answer : {A : Type 0} → States → Reads A → Result A NoEffect
answer s (Ends a) = Ok a
answer s (Read x go) = and_then (value_or_missing (access_seen s x)) (λ v. answer s (go v))

-- how reads that may fail went, and the value after them
abbrev pub with_effect : {A B : Type 0} → Result A NoEffect → B → Result B NoEffect
with_effect (Ok a) b = Ok b
with_effect (Err e) b = Err e

-- a map that gives each cell a value: those of internal RAM by 8 * byte + bit, and those of external memory by address
pub record CellMap : Type 0 where
  pub ram : ℕ → ℕ
  pub xram : ℕ → ℕ

-- the number whose bits this many cells have from cell `n` on, the lowest first
abbrev pub bits_in : CellMap → ℕ → ℕ → ℕ
bits_in m zero n = 0
bits_in m (suc k) n = m.ram n + 2 * bits_in m k (n + 1)

-- the value of one read
unfoldable pub access_value : CellMap → Access → ℕ
access_value m (ByteAt a) = bits_in m 8 (8 * a)
access_value m (BitAt n) = m.ram (256 + n)
access_value m (XbyteAt a) = m.xram a

-- over a map: the result
abbrev pub result_over : {A : Type 0} → CellMap → Reads A → A
result_over m (Ends a) = a
result_over m (Read x go) = result_over m (go (access_value m x))

-- over a map: the reads in order
abbrev pub accesses_over : {A : Type 0} → CellMap → Reads A → List Access
accesses_over m (Ends a) = []
accesses_over m (Read x go) = x ∷ accesses_over m (go (access_value m x))

-- the answer to the first of these reads that has no value, or else this result
abbrev pub first_missing : {A : Type 0} → States → List Access → A → Result A NoEffect
first_missing s [] a = Ok a
first_missing s (x ∷ xs) a = and_then (value_or_missing (access_seen s x)) (λ v. first_missing s xs a)

-- these reads, up to the first that has no value
abbrev pub goes_on : Seen → Access → List Access → List Access
goes_on (Value v) x xs = x ∷ xs
goes_on _ x xs = x ∷ []

abbrev pub up_to_missing : States → List Access → List Access
up_to_missing s [] = []
up_to_missing s (x ∷ xs) = goes_on (access_seen s x) x (up_to_missing s xs)

-- where a cell of the store holds a value, the map has it
pub record Agrees (s : States) (m : CellMap) : Type 0 where
  pub ram : (n v : ℕ) → s.ram n ≡ Holds v → m.ram n ≡ v
  pub xram : (n v : ℕ) → s.xram n ≡ Holds v → m.xram n ≡ v

-- What records put into an erased program memory.
use Rattle.std.specs.Prelude.{ℕ, ◌+◌, ◌-◌, ◌&&◌, nat_le, nat_lt, if◌then◌else◌, List, length, slice_index, fold}
use Rattle.std.specs.List.{slice_index_or}
use Rattle.m51_hex.specs.Record.{HexRecord}

-- a memory: the byte at each address
abbrev pub Memory : Type 0
Memory = ℕ → ℕ

-- the memory that an image fills; beyond an image it is erased
abbrev pub memory_in : List ℕ → Memory
memory_in image = λ address. slice_index_or image address 0xFF

-- an erased memory
abbrev pub erased : Memory
erased = λ address. 0xFF

-- the memory after the data of a record are put at its address, over what was there
unfoldable pub stored : Memory → HexRecord → Memory
stored memory r = λ address.
    if nat_le r.address address && nat_lt address (r.address + length r.bytes)
    then slice_index r.bytes (address - r.address)
    else memory address

-- the memory that the data of records make, one record after the other: later bytes replace earlier ones
abbrev pub memory_of : List HexRecord → Memory
memory_of records = fold stored erased records

-- What the table promises of decoding and encoding.
use Rattle.std.specs.Prelude.{◌≡◌, ℕ, ◌<◌, ◌≤◌, false, true, List, [], ◌∷◌, take, IsSome, Some}
use Rattle.m51_isa.specs.declared.instr.Instr.{Instr}
use Rattle.m51_isa.specs.Table.{IsRowAt, OperandsFit, decoded_at, decoded, encoded, is_reserved, length_of, padded}

-- no bytes begin with two rows
abbrev pub OneRow : Type 0
OneRow =
    (i j : Instr) (first second third : ℕ)
    → IsRowAt (first ∷ second ∷ third ∷ []) i → IsRowAt (first ∷ second ∷ third ∷ []) j → i ≡ j

-- no row begins with a reserved opcode
abbrev pub NoneReserved : Type 0
NoneReserved =
    (i : Instr) (first second third : ℕ)
    → first < 256 → is_reserved first ≡ true → IsRowAt (first ∷ second ∷ third ∷ []) i → ⊥

-- each other opcode begins a row
abbrev pub OthersDecode : Type 0
OthersDecode =
    (first second third : ℕ) → first < 256 → is_reserved first ≡ false → IsSome (decoded_at first second third)

-- bytes that begin with a row are decoded as its instruction
abbrev pub RowsDecode : Type 0
RowsDecode =
    (i : Instr) (first second third : ℕ)
    → IsRowAt (first ∷ second ∷ third ∷ []) i → decoded_at first second third ≡ Some i

-- an instruction has one to three bytes
pub record HasShortRow (i : Instr) : Type 0 where
  pub one : 1 ≤ length_of i
  pub three : length_of i ≤ 3

abbrev pub RowsAreShort : Type 0
RowsAreShort = (i : Instr) → HasShortRow i

-- an instruction's bytes, with zeros after them, are decoded as that instruction
abbrev pub CodesDecode : Type 0
CodesDecode = (i : Instr) → OperandsFit i → decoded (padded (encoded i)) ≡ Some i

-- of bytes that begin with a row, as many as the row has are those of its instruction
pub record HasFront (bytes : List ℕ) (i : Instr) : Type 0 where
  pub front : take (length_of i) bytes ≡ encoded i
  pub code : take (length_of i) (padded (encoded i)) ≡ encoded i

abbrev pub FrontsAgree : Type 0
FrontsAgree = (i : Instr) (bytes : List ℕ) → IsRowAt bytes i → HasFront bytes i

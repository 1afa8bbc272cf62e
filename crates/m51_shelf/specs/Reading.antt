-- What reading a whole file answers, in pieces.
use Rattle.std.specs.Prelude.{◌≡◌, ℕ, ◌+◌, ◌<◌, ◌≤◌, true, IsTrue, List, [], ◌∷◌, ◌++◌, length, take, Option, Some}
use Rattle.std.specs.Prelude.{Result, Ok, Err}
use Rattle.std.specs.Prelude.{OnOk, IfSome, IsSomeAnd}
use Rattle.m51_cells.specs.declared.limits.TheConstants.{MOST_FILE_BYTES}
use Rattle.m51_shelf.specs.declared.reading.FileReadError.{FileReadError}
use Rattle.m51_shelf.specs.declared.reading.FileReadError.TheVariants as error
use Rattle.m51_shelf.specs.Shelf.{Files, Grows, AppendsToLast, Opens}
use Rattle.m51_shelf.specs.States.{ReadAt, ShelfState, HasFailed}

-- these are all the bytes of the file that was started last, which is within the limit
pub record IsWholeFile (holds : Option Files) (after : ReadAt) (bytes : List ℕ) : Type 0 where
  pub within : length bytes ≤ MOST_FILE_BYTES
  pub taken : after.taken ≡ length bytes
  pub held : IfSome holds (λ files. files after.named ≡ Some bytes)

-- one byte past the limit was read from that file
pub record IsLong (holds : Option Files) (after : ReadAt) : Type 0 where
  pub taken : after.taken ≡ MOST_FILE_BYTES + 1
  pub held : IfSome holds (λ files. IsSomeAnd (files after.named) (λ file. MOST_FILE_BYTES < length file))

-- the whole file, or that it is too long, or that a call failed; out of memory is free
abbrev pub IsRead : Option Files → ReadAt → ReadAt → Result (List ℕ) FileReadError → Type 0
IsRead holds before after (Ok bytes) = IsWholeFile holds after bytes
IsRead holds before after (Err error.TooLong) = IsLong holds after
IsRead holds before after (Err error.Failed) = HasFailed before after
IsRead holds before after (Err error.Memory) = Unit {0}

abbrev pub IsThat : List ℕ → Result (List ℕ) FileReadError → Type 0
IsThat bytes (Ok all) = all ≡ bytes
IsThat bytes (Err error) = Unit {0}

-- The file of this name was started, and these bytes were returned from it, at most one past the limit; if the answer
-- has bytes, it has these.
pub record IsGiven (before after : ReadAt) (name : List ℕ) (result : Result (List ℕ) FileReadError) : Type 0 where
  pub bytes : List ℕ
  pub most : length bytes ≤ MOST_FILE_BYTES + 1
  pub grows : Grows before.given after.given ((name, bytes) ∷ [])
  pub all : IsThat bytes result

-- Conditions and clauses of functions.

-- a file that was started, of which nothing was taken
pub record IsOpened (at : ShelfState) : Type 0 where
  pub ready : IsTrue at.reads.ready
  pub taken : at.reads.taken ≡ 0
  pub opens : Opens at.holds at.reads.named at.reads.opened

-- these are the first bytes of the open file, and all of them
abbrev pub IsFront : Option (List ℕ) → List ℕ → Type 0
IsFront opened bytes = IfSome opened (λ file. bytes ≡ take (length bytes) file)

abbrev pub IsAll : Option (List ℕ) → List ℕ → Type 0
IsAll opened bytes = IfSome opened (λ file. file ≡ bytes)

-- these bytes were read from the open file, which can be read on
pub record HasTaken (at : ReadAt) (bytes : List ℕ) : Type 0 where
  pub ready : at.ready ≡ true
  pub taken : at.taken ≡ length bytes
  pub front : IsFront at.opened bytes

-- `count` further bytes were read, at most one past the limit; none only at the end of the file
pub record TakesOn (at : ReadAt) (old new : List ℕ) (count : ℕ) : Type 0 where
  pub taken : HasTaken at new
  pub more : length new ≡ length old + count
  pub few : length new ≤ MOST_FILE_BYTES + 1
  pub at_end : count ≡ 0 → IsAll at.opened new

-- a piece that did not come: the call failed; out of memory is free
abbrev pub IsPieceError : ReadAt → ReadAt → Result ℕ FileReadError → Type 0
IsPieceError before after (Ok count) = Unit {0}
IsPieceError before after (Err error.TooLong) = ⊥
IsPieceError before after (Err error.Failed) = HasFailed before after
IsPieceError before after (Err error.Memory) = Unit {0}

-- These bytes were returned from the open file, at most one past the limit; if the answer has bytes, it has these.
pub record HandsOver (before after : ReadAt) (result : Result (List ℕ) FileReadError) : Type 0 where
  pub bytes : List ℕ
  pub most : length bytes ≤ MOST_FILE_BYTES + 1
  pub goes : AppendsToLast before.given after.given bytes
  pub all : IsThat bytes result

-- A piece of the open file was returned, and is what came after the bytes that were read before; with them it has at
-- most one byte past the limit.
pub record GivesOn {T E : Type 0} (before after : ReadAt) (old new : List ℕ) (result : Result T E) : Type 0 where
  pub piece : List ℕ
  pub most : length (old ++ piece) ≤ MOST_FILE_BYTES + 1
  pub goes : AppendsToLast before.given after.given piece
  pub all : OnOk result (new ≡ old ++ piece)

-- The shelf in memory: what it holds and keeps, and exactly when a call fails.
use Rattle.std.specs.Prelude.{◌≡◌, ℕ, ◌-◌, ◌<◌, ◌⊎◌, Bool, true, false, is_ok, List, [], ◌∷◌, ◌++◌, length, None}
use Rattle.std.specs.Prelude.{◌≤◌, Result, Ok, Err, Contains, Vec, vec_capacity}
use Rattle.std.specs.declared.alloc.Global.{Global}
use Rattle.m51_cells.specs.Outside.{one_more}
use Rattle.m51_shelf.specs.declared.mem_shelf.ShelfCall.{ShelfCall}
use Rattle.m51_shelf.specs.declared.mem_shelf.ShelfCall.TheVariants.{Start, Piece, Keep}
use Rattle.m51_shelf.specs.Shelf.{File, file_of}

-- what is kept: the files, in order; for how many more files and bytes there is room; how often keep was called; the
-- name of the last file that was not kept, and how many were not
pub record MemoryStore : Type 0 where
  pub kept : List File
  pub buffers : ℕ
  pub room : ℕ
  pub calls : ℕ
  pub missed : List ℕ
  pub faults : ℕ

-- what contracts see of it: its files, the calls that fail, how often start and piece were called, the open file and
-- how many of these calls have failed; and what is kept
pub record MemoryShelf : Type 0 where
  pub files : List File
  pub fails : List (ShelfCall × ℕ)
  pub starts : ℕ
  pub pieces : ℕ
  pub name : List ℕ
  pub index : ℕ
  pub taken : ℕ
  pub ready : Bool
  pub faults : ℕ
  pub store : MemoryStore

-- the shelf before its first call, with buffers for `buffers` files and room for `room` bytes in all
abbrev pub made : List File → List (ShelfCall × ℕ) → ℕ → ℕ → MemoryShelf
made files fails buffers room = record {
  files = files;
  fails = fails;
  starts = 0;
  pieces = 0;
  name = [];
  index = length files;
  taken = 0;
  ready = false;
  faults = 0;
  store = record { kept = []; buffers = buffers; room = room; calls = 0; missed = []; faults = 0 };
}

-- the count after a call: one more where it failed, else as before
abbrev pub faults_after : {T E : Type 0} → ℕ → Result T E → ℕ
faults_after faults result = faults_at faults (is_ok result)
  where
    faults_at : ℕ → Bool → ℕ
    faults_at faults true = faults
    faults_at faults false = one_more faults

-- a start fails: its number is listed, or the file does not exist
abbrev pub FailsToStart : MemoryShelf → List ℕ → Type 0
FailsToStart shelf name = Contains shelf.fails (Start, one_more shelf.starts) ⊎ (file_of shelf.files name ≡ None)

-- a piece fails: its number is listed
abbrev pub FailsToRead : MemoryShelf → Type 0
FailsToRead shelf = Contains shelf.fails (Piece, one_more shelf.pieces)

-- A start is counted, and the count of faults rises where it fails.
pub record Starts {T E : Type 0} (old new : MemoryShelf) (result : Result T E) : Type 0 where
  pub files : new.files ≡ old.files
  pub fails : new.fails ≡ old.fails
  pub starts : new.starts ≡ one_more old.starts
  pub pieces : new.pieces ≡ old.pieces
  pub faults : new.faults ≡ faults_after old.faults result

-- A piece is counted, and the count of faults rises where it fails.
pub record CountsPiece {T E : Type 0} (old new : MemoryShelf) (result : Result T E) : Type 0 where
  pub files : new.files ≡ old.files
  pub fails : new.fails ≡ old.fails
  pub starts : new.starts ≡ old.starts
  pub pieces : new.pieces ≡ one_more old.pieces
  pub faults : new.faults ≡ faults_after old.faults result

-- the next keep fails at this many bytes: its number is listed, or there is no buffer or no room
abbrev pub FailsToKeep : MemoryShelf → ℕ → Type 0
FailsToKeep shelf count =
    Contains shelf.fails (Keep, one_more shelf.store.calls)
    ⊎ ((shelf.store.buffers ≡ 0) ⊎ (shelf.store.room < count))

-- the store after a file was kept, and after one was not
abbrev pub after_kept : MemoryStore → File → MemoryStore
after_kept store file = record store {
  kept = store.kept ++ file ∷ [];
  buffers = store.buffers - 1;
  room = store.room - length file.1;
  calls = one_more store.calls;
}

abbrev pub after_missed : MemoryStore → File → MemoryStore
after_missed store file = record store {
  calls = one_more store.calls;
  missed = file.0;
  faults = one_more store.faults;
}

-- A keep is counted, and adds the file to those that are kept, or counts that it was missed.
abbrev pub store_after : {T E : Type 0} → MemoryStore → File → Result T E → MemoryStore
store_after store file (Ok kept) = after_kept store file
store_after store file (Err failed) = after_missed store file

-- what is read of stays as it is
pub record SameFiles (old new : MemoryShelf) : Type 0 where
  pub files : new.files ≡ old.files
  pub fails : new.fails ≡ old.fails
  pub starts : new.starts ≡ old.starts
  pub pieces : new.pieces ≡ old.pieces
  pub name : new.name ≡ old.name
  pub index : new.index ≡ old.index
  pub taken : new.taken ≡ old.taken
  pub ready : new.ready ≡ old.ready
  pub faults : new.faults ≡ old.faults

-- what contracts see of the shelf that never fails
pub record SureFiles : Type 0 where
  pub files : List File
  pub name : List ℕ
  pub index : ℕ
  pub taken : ℕ
  pub ready : Bool

-- Conditions of functions.

-- an empty list with room for `room` bytes
pub record IsPlace (room : ℕ) (buffer : Vec ℕ Global) : Type 0 where
  pub enough : room ≤ vec_capacity buffer
  pub empty : buffer.items ≡ []

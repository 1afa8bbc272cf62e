-- Files by name, and what the calls of a shelf do.
use Rattle.std.specs.Prelude.{◌≡◌, ◌≢◌, ℕ, ◌+◌, ◌-◌, ◌<◌, ◌≤◌, List, [], ◌∷◌, ◌++◌, length, take, drop, Option, Some}
use Rattle.std.specs.Prelude.{None, IsSome, Result, Ok, Err, min, ◌^◌, if◌then◌else◌}
use Rattle.std.specs.Str.{bytes_eq}
use Rattle.std.specs.List.{slice_index_or}

-- a file: its name and its bytes
abbrev pub File : Type 0
File = List ℕ × List ℕ

-- files by name
abbrev pub Files : Type 0
Files = List ℕ → Option (List ℕ)

-- a list of files: of two of one name the first counts
abbrev pub file_of : List File → Files
file_of [] name = None
file_of (file ∷ files) name = if bytes_eq file.0 name then Some file.1 else file_of files name

-- the same, with an empty file under each name that is not among them
abbrev pub file_or_empty : List File → Files
file_or_empty [] name = Some []
file_or_empty (file ∷ files) name = if bytes_eq file.0 name then Some file.1 else file_or_empty files name

-- what the file of this index holds; past the last one nothing
abbrev pub contents_at : List File → ℕ → List ℕ
contents_at files at = (slice_index_or files at ([], [])).1

-- the files, if visible, hold the opened one under this name
abbrev pub Opens : Option Files → List ℕ → Option (List ℕ) → Type 0
Opens None name content = Unit {0}
Opens (Some files) name content = (files name ≡ content) × IsSome content

-- A piece of count bytes is what the open file holds after the first taken bytes, and is empty only at its end or
-- where there is no room.
pub record IsPiece (file : List ℕ) (taken count : ℕ) (into : List ℕ) : Type 0 where
  pub within : taken + count ≤ length file
  pub bytes : take count into ≡ take count (drop taken file)
  pub at_end : count ≡ 0 → 0 < length into → length file ≤ taken

-- how many bytes were returned, a count that stops at its last value
abbrev pub handed : {E : Type 0} → ℕ → Result ℕ E → ℕ
handed taken (Ok count) = min (taken + count) (2 ^ 64 - 1)
handed taken (Err failed) = taken

-- the files, if visible, have grown by these
abbrev pub Grows : Option (List File) → Option (List File) → List File → Type 0
Grows None new more = Unit {0}
Grows (Some old) new more = new ≡ Some (old ++ more)

-- these bytes are appended to the last of the files, if they are visible
abbrev pub AppendsToLast : Option (List File) → Option (List File) → List ℕ → Type 0
AppendsToLast None new more = Unit {0}
AppendsToLast (Some old) new more = (front : List File) (name bytes : List ℕ) → old ≡ front ++ (name, bytes) ∷ []
    → new ≡ Some (front ++ (name, bytes ++ more) ∷ [])

-- likewise with the bytes that a piece put at the beginning of a slice, or with none if the piece failed
abbrev pub HandsOut : {E : Type 0} → Option (List File) → Option (List File) → Result ℕ E → List ℕ → Type 0
HandsOut old new (Ok count) into = AppendsToLast old new (take count into)
HandsOut old new (Err failed) into = new ≡ old

-- the files, if visible, have grown by this one if it was kept, else they are as before
abbrev pub GrowsIfKept : {T E : Type 0} → Option (List File) → Option (List File) → File → Result T E → Type 0
GrowsIfKept old new file (Ok kept) = Grows old new (file ∷ [])
GrowsIfKept old new file (Err failed) = new ≡ old

-- the name of the last file that was not kept
abbrev pub missed_after : {T E : Type 0} → List ℕ → List ℕ → Result T E → List ℕ
missed_after missed name (Ok kept) = missed
missed_after missed name (Err failed) = name

-- the files of other names stay, if visible
abbrev pub HoldsOthers : Option Files → Option Files → List ℕ → Type 0
HoldsOthers None new name = Unit {0}
HoldsOthers (Some old) None name = ⊥
HoldsOthers (Some old) (Some new) name = (other : List ℕ) → other ≢ name → new other ≡ old other

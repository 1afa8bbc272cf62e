-- What reading files answers, one whole file after another.
use Rattle.std.specs.Prelude.{◌≡◌, ℕ, ◌+◌, ◌≤◌, nat_le, List, [], ◌∷◌, ◌++◌, length, map, Option, Some, None}
use Rattle.std.specs.Prelude.{Result, Ok, Err, IfSome, Contains, slice_get, if◌then◌else◌}
use Rattle.std.specs.List.{All}
use Rattle.m51_cells.specs.declared.limits.TheConstants.{MOST_FILE_BYTES}
use Rattle.m51_shelf.specs.declared.reading.FileReadError.{FileReadError}
use Rattle.m51_shelf.specs.declared.reading.FileReadError.TheVariants as error
use Rattle.m51_shelf.specs.Reading.{IsLong}
use Rattle.m51_shelf.specs.Shelf.{File, Files, Grows}
use Rattle.m51_shelf.specs.States.{ReadAt, HasFailed}

-- all files exist and are within the limit, with these contents; or the first that is too long or does not exist
pub data Reading : Type 0 where
  Whole : List (List ℕ) → Reading
  TooLong : Reading
  Absent : List ℕ → Reading

-- the contents with those of one more file before them
abbrev pub with_file : List ℕ → Reading → Reading
with_file bytes (Whole contents) = Whole (bytes ∷ contents)
with_file bytes TooLong = TooLong
with_file bytes (Absent name) = Absent name

-- a file of this name, and what follows
abbrev pub read_one : List ℕ → Option (List ℕ) → Reading → Reading
read_one name None rest = Absent name
read_one name (Some bytes) rest = if nat_le (length bytes) MOST_FILE_BYTES then with_file bytes rest else TooLong

-- the files of these names, in order
abbrev pub read_of : Files → List (List ℕ) → Reading
read_of files [] = Whole []
read_of files (name ∷ names) = read_one name (files name) (read_of files names)

-- the contents of all files, each within the limit; the files, if visible, hold them
pub record AreRead (holds : Option Files) (names contents : List (List ℕ)) : Type 0 where
  pub count : length contents ≡ length names
  pub within : All (λ bytes. length bytes ≤ MOST_FILE_BYTES) contents
  pub held : IfSome holds (λ files. read_of files names ≡ Whole contents)

-- the file of this name is one of those that are read, and those before it were read whole
pub record IsFileReached (holds : Option Files) (names : List (List ℕ)) (named : List ℕ) : Type 0 where
  pub front : List (List ℕ)
  pub rest : List (List ℕ)
  pub contents : List (List ℕ)
  pub is : names ≡ front ++ named ∷ rest
  pub read : AreRead holds front contents

-- all files, or that the one reached is too long, or that a call failed on it; out of memory is free
abbrev pub AreReadOr : Option Files → List (List ℕ) → List (List ℕ) → ReadAt → ReadAt → Result (Unit {0}) FileReadError
    → Type 0
AreReadOr holds names contents before after (Ok all) = AreRead holds names contents
AreReadOr holds names contents before after (Err error.TooLong) =
    IsLong holds after × IsFileReached holds names after.named
AreReadOr holds names contents before after (Err error.Failed) =
    HasFailed before after × IsFileReached holds names after.named
    × (slice_get names (length contents) ≡ Some after.named)
AreReadOr holds names contents before after (Err error.Memory) = Unit {0}

-- the files of these names with these contents
abbrev pub files_with : List (List ℕ) → List (List ℕ) → List File
files_with (name ∷ names) (bytes ∷ contents) = (name, bytes) ∷ files_with names contents
files_with names contents = []

-- the shelf returned these files with all their bytes, and nothing else, if what it returns is visible
abbrev pub AreGiven : List (List ℕ) → ReadAt → ReadAt → List (List ℕ) → Type 0
AreGiven names before after contents = Grows before.given after.given (files_with names contents)

-- If what the shelf returns is visible: the files that were started are those of the first of these names, in order,
-- and at most one byte past the limit was returned from each.
pub record AreStarted (names : List (List ℕ)) (before after : ReadAt) : Type 0 where
  pub files : List File
  pub rest : List (List ℕ)
  pub given : Grows before.given after.given files
  pub are : names ≡ map (λ (file : File). file.0) files ++ rest
  pub most : All (λ (file : File). length file.1 ≤ MOST_FILE_BYTES + 1) files

-- The file that was started last has one of these names, and at most one byte past the limit was read from it, even if
-- it is not visible which files were started.
pub record ReadsSome (names : List (List ℕ)) (before after : ReadAt) : Type 0 where
  pub started : AreStarted names before after
  pub named : Contains names after.named
  pub most : after.taken ≤ MOST_FILE_BYTES + 1

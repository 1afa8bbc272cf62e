-- The arguments of lib: an operation, a library, and the objects or names.
use Rattle.std.specs.Prelude.{ℕ, List, [], ◌∷◌, ◌++◌, Option, Some, None, codes, option_map}
use Rattle.std.specs.Prelude.{if◌then◌else◌}
use Rattle.std.specs.Str.{bytes_eq}
use Rattle.m51_cells.specs.Name.{name_of}
use Rattle.m51_jobs.specs.declared.job.LibraryJob.{LibraryJob}
use Rattle.m51_jobs.specs.declared.job.Operation.{Operation}
use Rattle.m51_jobs.specs.declared.job.Operation.TheVariants as operation
use Rattle.m51_jobs.specs.Endings.{are_objects}

-- one or more objects
abbrev pub objects_of : List (List ℕ) → Option (List (List ℕ))
objects_of words = if are_objects words then Some words else None

abbrev pub name_before : Option (List ℕ) → Option (List (List ℕ)) → Option (List (List ℕ))
name_before (Some name) (Some names) = Some (name ∷ names)
name_before _ _ = None

-- words, each of which is a name
abbrev pub names_of_words : List (List ℕ) → Option (List (List ℕ))
names_of_words [] = Some []
names_of_words (word ∷ words) = name_before (name_of word) (names_of_words words)

-- one or more names
abbrev pub names_of : List (List ℕ) → Option (List (List ℕ))
names_of [] = None
names_of (word ∷ words) = names_of_words (word ∷ words)

-- a module by its name, and the file that it is kept in: its name and .obj
abbrev pub extracted : List ℕ → Operation
extracted name = operation.Extract name (name ++ codes ".obj")

-- exactly one name
abbrev pub extract_of : List (List ℕ) → Option Operation
extract_of (word ∷ []) = option_map extracted (name_of word)
extract_of words = None

-- no more words
abbrev pub list_of : List (List ℕ) → Option Operation
list_of [] = Some operation.List
list_of words = None

-- the operation of this word, with the words after the library
unfoldable pub operation_of : List ℕ → List (List ℕ) → Option Operation
operation_of word words =
    if bytes_eq word (codes "build") then option_map operation.Build (objects_of words)
    else if bytes_eq word (codes "add") then option_map operation.Add (objects_of words)
    else if bytes_eq word (codes "replace") then option_map operation.Replace (objects_of words)
    else if bytes_eq word (codes "delete") then option_map operation.Delete (names_of words)
    else if bytes_eq word (codes "raise") then option_map operation.Raise (names_of words)
    else if bytes_eq word (codes "extract") then extract_of words
    else if bytes_eq word (codes "list") then list_of words
    else None

abbrev pub done_with : List ℕ → Operation → LibraryJob
done_with library operation = record { library = library; operation = operation }

-- what the arguments of `lib` ask for: the operation, the library, and the rest
unfoldable pub library_job : List (List ℕ) → Option LibraryJob
library_job (word ∷ library ∷ words) = option_map (done_with library) (operation_of word words)
library_job words = None

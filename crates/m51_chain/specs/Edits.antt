-- The edits of a library.
use Rattle.std.specs.Prelude.{◌≡◌, ℕ, List, [], ◌∷◌, length, map, Result, Ok}
use Rattle.m51_cells.specs.Outcome.{and_then}
use Rattle.m51_library.specs.Reading.{module_in}
use Rattle.m51_module.specs.declared.library_error.LibError.{LibError}
use Rattle.m51_module.specs.declared.parts.ModuleParts.{ModuleParts}
use Rattle.m51_module.specs.Library.{added, deleted, raised_in, replaced}
use Rattle.m51_jobs.specs.declared.job.Operation.{Operation}
use Rattle.m51_jobs.specs.declared.job.Operation.TheVariants as operation
use Rattle.m51_chain.specs.declared.editing.LibraryEdit.{LibraryEdit}
use Rattle.m51_chain.specs.declared.editing.LibraryEdit.TheVariants as edit
use Rattle.m51_chain.specs.Outcome.{Outcome, or_refused, then_do}
use Rattle.m51_chain.specs.Refusals.{object_outcome}

-- the modules after an edit, or why it is refused
abbrev pub edited : List ModuleParts → LibraryEdit → Result (List ModuleParts) LibError
edited modules (edit.Add m) = added modules m
edited modules (edit.Replace m) = replaced modules m
edited modules (edit.Delete name) = and_then (deleted modules name) (λ found. Ok found.1)
edited modules (edit.Raise name) = raised_in modules name

-- edits made one by one, up to the first that is refused
abbrev pub edited_each : List ModuleParts → List LibraryEdit → Result (List ModuleParts) LibError
edited_each modules [] = Ok modules
edited_each modules (next ∷ more) = and_then (edited modules next) (λ now. edited_each now more)

-- what an operation does with one of its objects, and with the module of one of its names
abbrev pub object_edit : Operation → ModuleParts → LibraryEdit
object_edit (operation.Replace names) m = edit.Replace m
object_edit other m = edit.Add m

abbrev pub name_edit : Operation → List ℕ → LibraryEdit
name_edit (operation.Raise names) name = edit.Raise name
name_edit other name = edit.Delete name

-- an object of this name
abbrev pub object_in : List ℕ → List ℕ → Result ModuleParts Outcome
object_in name file = or_refused (object_outcome name) (module_in file)

abbrev pub with_first : {A : Type 0} → A → List A → Result (List A) Outcome
with_first x xs = Ok (x ∷ xs)

-- what it does with the objects of these names, in order, or the first refusal of an object
abbrev pub object_edits : Operation → List (List ℕ) → List (List ℕ) → Result (List LibraryEdit) Outcome
object_edits op (name ∷ names) (file ∷ files) =
    then_do (object_in name file) (λ m. then_do (object_edits op names files) (with_first (object_edit op m)))
object_edits op names files = Ok []

-- the edits of an operation, in order, with the files of its objects
unfoldable pub edits_of : Operation → List (List ℕ) → Result (List LibraryEdit) Outcome
edits_of (operation.Build names) files = object_edits (operation.Build names) names files
edits_of (operation.Add names) files = object_edits (operation.Add names) names files
edits_of (operation.Replace names) files = object_edits (operation.Replace names) names files
edits_of (operation.Delete names) files = Ok (map (name_edit (operation.Delete names)) names)
edits_of (operation.Raise names) files = Ok (map (name_edit (operation.Raise names)) names)
edits_of (operation.Extract name file) files = Ok []
edits_of operation.List files = Ok []

-- Conditions of functions.

-- there is a file for each object of an operation
abbrev pub HasFiles : Operation → List (List ℕ) → Type 0
HasFiles (operation.Build names) files = length files ≡ length names
HasFiles (operation.Add names) files = length files ≡ length names
HasFiles (operation.Replace names) files = length files ≡ length names
HasFiles other files = Unit {0}

-- What lib makes of the contents of its files.
use Rattle.std.specs.Prelude.{ℕ, List, [], ◌∷◌, ◌++◌, codes, flat_map, Some, Result, Ok, Err}
use Rattle.m51_module.specs.declared.library_error.LibError.{LibError}
use Rattle.m51_module.specs.declared.parts.ModuleParts.{ModuleParts}
use Rattle.m51_module.specs.Library.{extracted}
use Rattle.m51_records.specs.Spelling.{bytes_of}
use Rattle.m51_library.specs.Reading.{library_of}
use Rattle.m51_library.specs.Spelling.{library_bytes}
use Rattle.m51_jobs.specs.declared.job.LibraryJob.{LibraryJob}
use Rattle.m51_jobs.specs.declared.job.Operation.{Operation}
use Rattle.m51_jobs.specs.declared.job.Operation.TheVariants as operation
use Rattle.m51_chain.specs.declared.status.Status.TheVariants.{Ran}
use Rattle.m51_chain.specs.Edits.{edited_each, edits_of}
use Rattle.m51_chain.specs.Outcome.{Outcome, or_refused, then_do, written}
use Rattle.m51_chain.specs.Refusals.{library_outcome, edit_outcome}

-- both in one
abbrev pub either : Result Outcome Outcome → Outcome
either (Ok outcome) = outcome
either (Err outcome) = outcome

-- a library of this name
abbrev pub library_in : List ℕ → List ℕ → Result (List ModuleParts) Outcome
library_in name file = or_refused (library_outcome name) (library_of file)

-- these bytes are kept, and nothing is written; this text is written, and nothing is kept
abbrev pub keeping : List ℕ → Result Outcome Outcome
keeping bytes = Ok (record { status = Ran; text = []; keeps = Some bytes })

abbrev pub writing : List ℕ → Result Outcome Outcome
writing text = Ok (written text)

-- the library is kept, where it is accepted
abbrev pub kept_library : Result (List ModuleParts) LibError → Result Outcome Outcome
kept_library edited = then_do (or_refused edit_outcome edited) (λ modules. keeping (library_bytes modules))

abbrev pub kept_module : Result ModuleParts LibError → Result Outcome Outcome
kept_module found = then_do (or_refused edit_outcome found) (λ m. keeping (bytes_of m))

-- a line of a list
abbrev pub name_line : ModuleParts → List ℕ
name_line m = m.name ++ codes "\n"

-- the library is kept after the edits of an operation, where all are accepted
abbrev pub edited_library : Operation → List (List ℕ) → List ModuleParts → Result Outcome Outcome
edited_library op files modules = then_do (edits_of op files) (λ edits. kept_library (edited_each modules edits))

-- an operation on a library that is read
unfoldable pub operated : Operation → List (List ℕ) → List ModuleParts → Result Outcome Outcome
operated (operation.Extract name file) files modules = kept_module (extracted modules name)
operated operation.List files modules = writing (flat_map name_line modules)
operated op files modules = edited_library op files modules

-- the contents of the library first, and of the other files
abbrev pub with_library : List ℕ → Operation → List (List ℕ) → Result Outcome Outcome
with_library name operation [] = writing []
with_library name operation (file ∷ files) = then_do (library_in name file) (operated operation files)

unfoldable pub library_work : List ℕ → Operation → List (List ℕ) → Result Outcome Outcome
library_work name (operation.Build names) files = edited_library (operation.Build names) files []
library_work name operation files = with_library name operation files

-- what lib makes of the contents of its files
abbrev pub library_outcome_of : LibraryJob → List (List ℕ) → Outcome
library_outcome_of job files = either (library_work job.library job.operation files)

-- Conditions of functions.

-- an operation other than build, so on a library that exists
abbrev pub IsNoBuild : Operation → Type 0
IsNoBuild (operation.Build names) = ⊥
IsNoBuild other = Unit {0}

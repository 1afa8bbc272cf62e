-- Objects and libraries of a program.
use Rattle.std.specs.Prelude.{ℕ, ◌+◌, List, [], ◌∷◌, Option, Some, Result, Ok, Err}
use Rattle.m51_cells.specs.Outcome.{and_then}
use Rattle.m51_module.specs.declared.library_error.LibError.{LibError}
use Rattle.m51_module.specs.declared.object_error.ObjError.{ObjError}
use Rattle.m51_module.specs.declared.parts.ModuleParts.{ModuleParts}
use Rattle.m51_library.specs.Reading.{library_of, module_in}
use Rattle.m51_jobs.specs.declared.endings.Ending.{Ending}
use Rattle.m51_jobs.specs.declared.endings.Ending.TheVariants as ending
use Rattle.m51_jobs.specs.Endings.{ending_of}
use Rattle.m51_inputs.specs.declared.error.InputError.{InputError}
use Rattle.m51_inputs.specs.declared.error.InputError.TheVariants.{Object, Library}
use Rattle.m51_inputs.specs.declared.objects.LinkInputs.{LinkInputs}

-- the module of the object of the argument with this index
abbrev pub or_object : ℕ → Result ModuleParts ObjError → Result ModuleParts InputError
or_object word (Ok parts) = Ok parts
or_object word (Err error) = Err (Object word error)

-- the modules of the library of the argument with this index
abbrev pub or_library : ℕ → Result (List ModuleParts) LibError → Result (List ModuleParts) InputError
or_library word (Ok modules) = Ok modules
or_library word (Err error) = Err (Library word error)

-- the given modules and the libraries, in the order of the arguments
pub record Linked : Type 0 where
  pub modules : List ModuleParts
  pub libraries : List (List ModuleParts)

abbrev pub linked : LinkInputs → Linked
linked files = record { modules = files.modules; libraries = files.libraries }

-- these before what the arguments after them give, unless that is refused
abbrev pub with_module : Result Linked InputError → ModuleParts → Result Linked InputError
with_module (Ok after) parts = Ok (record { modules = parts ∷ after.modules; libraries = after.libraries })
with_module (Err error) parts = Err error

abbrev pub with_library : Result Linked InputError → List ModuleParts → Result Linked InputError
with_library (Ok after) library = Ok (record { modules = after.modules; libraries = library ∷ after.libraries })
with_library (Err error) library = Err error

-- a source gives the next of the modules of the sources
abbrev pub with_source : List ModuleParts → (List ModuleParts → Result Linked InputError) → Result Linked InputError
with_source (parts ∷ sources) after = with_module (after sources) parts
with_source [] after = after []

abbrev pub with_object : ℕ → List ℕ → Result Linked InputError → Result Linked InputError
with_object word bytes after = and_then (or_object word (module_in bytes)) (with_module after)

abbrev pub with_archive : ℕ → List ℕ → Result Linked InputError → Result Linked InputError
with_archive word bytes after = and_then (or_library word (library_of bytes)) (with_library after)

-- what the file of an argument gives, by what it is, before what the arguments after it give
abbrev pub linked_by : Option Ending → ℕ → List ℕ → List ModuleParts → (List ModuleParts → Result Linked InputError)
    → Result Linked InputError
linked_by (Some ending.Source) word bytes sources after = with_source sources after
linked_by (Some ending.Object) word bytes sources after = with_object word bytes (after sources)
linked_by (Some ending.Library) word bytes sources after = with_archive word bytes (after sources)
linked_by other word bytes sources after = after sources

-- What file arguments give, where the first has this index and the sources give these modules: objects and libraries
-- are read in the order of the arguments, and the first refusal counts.
abbrev pub linked_from : ℕ → List (List ℕ) → List (List ℕ) → List ModuleParts → Result Linked InputError
linked_from word (name ∷ names) (bytes ∷ contents) sources =
    linked_by (ending_of name) word bytes sources (linked_from (word + 1) names contents)
linked_from word names contents sources = Ok (record { modules = []; libraries = [] })

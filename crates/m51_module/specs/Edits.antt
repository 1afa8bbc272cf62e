-- Lists of edits of a library: a refused edit changes nothing.
use Rattle.std.specs.Prelude.{List, [], ◌∷◌, Result, Ok, Err}
use Rattle.m51_cells.specs.Outcome.{and_then}
use Rattle.m51_module.specs.declared.edit.Edit.{Edit}
use Rattle.m51_module.specs.declared.edit.Edit.TheVariants.{Add, Delete, Replace, Raise}
use Rattle.m51_module.specs.declared.library_error.LibError.{LibError}
use Rattle.m51_module.specs.declared.parts.ModuleParts.{ModuleParts}
use Rattle.m51_module.specs.Library.{added, deleted, replaced, raised_in}

-- the modules that an edit of these makes, or its refusal
abbrev pub edited : List ModuleParts → Edit → Result (List ModuleParts) LibError
edited modules (Add new) = added modules new
edited modules (Delete name) = and_then (deleted modules name) (λ found. Ok found.1)
edited modules (Replace new) = replaced modules new
edited modules (Raise name) = raised_in modules name

-- what an accepted edit makes, and as before where it is refused
abbrev pub or_before : List ModuleParts → Result (List ModuleParts) LibError → List ModuleParts
or_before modules (Ok now) = now
or_before modules (Err refusal) = modules

-- after an edit
abbrev pub after_edit : List ModuleParts → Edit → List ModuleParts
after_edit modules edit = or_before modules (edited modules edit)

-- after these edits, one after another
abbrev pub after_edits : List ModuleParts → List Edit → List ModuleParts
after_edits modules [] = modules
after_edits modules (edit ∷ more) = after_edits (after_edit modules edit) more

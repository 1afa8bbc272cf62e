-- The one spelling of each library.
use Rattle.std.specs.Prelude.{ℕ, List, ◌++◌, length}
use Rattle.std.specs.List.{flat_map}
use Rattle.m51_module.specs.declared.parts.ModuleParts.{ModuleParts}
use Rattle.m51_records.specs.declared.types.TheConstants.{LIBRARY_HEADER}
use Rattle.m51_frame.specs.Fields.{pair}
use Rattle.m51_frame.specs.Frame.{record_of}
use Rattle.m51_records.specs.Spelling.{bytes_of}

-- the first record: how many modules there are
abbrev pub count_record : ℕ → List ℕ
count_record count = record_of LIBRARY_HEADER (pair count)

-- that record, and the spellings of the modules, one after another
abbrev pub library_bytes : List ModuleParts → List ℕ
library_bytes modules = count_record (length modules) ++ flat_map bytes_of modules

-- Reading an object and a library, with the first refusal.
use Rattle.std.specs.Prelude.{ℕ, zero, suc, ◌+◌, nat_le, List, [], ◌∷◌, length, Result, Ok, Err}
use Rattle.m51_module.specs.declared.library_error.LibError.{LibError}
use Rattle.m51_module.specs.declared.library_error.LibError.TheVariants.{Object, Memory}
use Rattle.m51_module.specs.declared.object_error.ObjError.{ObjError}
use Rattle.m51_module.specs.declared.object_error.ObjError.TheVariants.{O3, Memory as NoRoom}
use Rattle.m51_module.specs.declared.parts.ModuleParts.{ModuleParts}
use Rattle.m51_cells.specs.declared.limits.TheConstants.{MOST_MODULES}
use Rattle.m51_cells.specs.Outcome.{and_then}
use Rattle.m51_module.specs.Library.{built}
use Rattle.m51_records.specs.declared.types.TheConstants.{LIBRARY_HEADER}
use Rattle.m51_frame.specs.Fields.{◌>>=◌, offset_of, pair_at, checked, ended}
use Rattle.m51_records.specs.Reading.{one_at, module_at}
use Rattle.m51_records.specs.Spelling.{records_in}

-- the number of modules, at most 255
abbrev pub count_field_at : ℕ → List ℕ → Result (ℕ × List ℕ) ObjError
count_field_at end bytes = do
  count ← pair_at end bytes
  checked (nat_le count.0 MOST_MODULES) end bytes count

-- the contents of the first record
unfoldable pub count_in : ℕ → List ℕ → Result ℕ ObjError
count_in end contents = do
  count ← count_field_at end contents
  ended end count.1 count.0

-- The given number of modules, one after another, and the bytes after them. They end with the file, at its total
-- length, and the next record has that number.
unfoldable pub modules_at : ℕ → ℕ → ℕ → List ℕ → Result (List ModuleParts × List ℕ) ObjError
modules_at zero total number bytes = Ok ([], bytes)
modules_at (suc more) total number bytes = do
  one ← module_at total number bytes
  others ← modules_at more total (number + records_in one.0) one.1
  Ok (one.0 ∷ others.0, others.1)

-- nothing follows: else O3 at the first byte that does
abbrev pub at_end : {A : Type 0} → ℕ → List ℕ → A → Result A ObjError
at_end total [] value = Ok value
at_end total (byte ∷ rest) value = Err (O3 (offset_of total (byte ∷ rest)))

abbrev pub nothing_after : ℕ → ModuleParts × List ℕ → Result ModuleParts ObjError
nothing_after total found = at_end total found.1 found.0

-- the module of an object, with nothing after it: else O3 at the first byte that follows
unfoldable pub module_in : List ℕ → Result ModuleParts ObjError
module_in file = and_then (module_at (length file) 0 file) (nothing_after (length file))

-- the modules of a file: their number, and then they and nothing else
unfoldable pub modules_of : List ℕ → Result (List ModuleParts) ObjError
modules_of file = do
  count ← one_at LIBRARY_HEADER count_in (length file) 0 file
  modules ← modules_at count.0 (length file) 1 count.1
  at_end (length file) modules.1 modules.0

-- an error of the bytes as one of the library: out of memory stays what it is
abbrev pub refused_by : ObjError → LibError
refused_by NoRoom = Memory
refused_by refusal = Object refusal

-- what refuses the bytes refuses the library
abbrev pub or_object : {A : Type 0} → Result A ObjError → Result A LibError
or_object (Ok value) = Ok value
or_object (Err refusal) = Err (Object refusal)

-- each refusal of the bytes comes first; then the modules make a library as if they were added one by one
abbrev pub library_of : List ℕ → Result (List ModuleParts) LibError
library_of file = and_then (or_object (modules_of file)) built

-- The text of the faults of sources.
use Rattle.std.specs.Prelude.{ℕ, ◌-◌, ◌==◌, if◌then◌else◌, List, [], ◌++◌, codes, decimal, flat_map, slice_get}
use Rattle.std.specs.Prelude.{unwrap_or}
use Rattle.std.specs.List.{filter, slice_index_or}
use Rattle.m51_module.specs.declared.source.Fault.{Fault}
use Rattle.m51_jobs.specs.Endings.{is_include}

-- the include of that number among the file arguments, counted from 0
abbrev pub include_at : List (List ℕ) → ℕ → List ℕ
include_at files number = unwrap_or (slice_get (filter is_include files) number) []

-- the name of a file of a source: 0 is the source, k the k-th include among the file arguments
abbrev pub file_of_text : List ℕ → List (List ℕ) → ℕ → List ℕ
file_of_text source files number = if number == 0 then source else include_at files (number - 1)

-- a fault of a source
abbrev pub fault_line : List ℕ → List (List ℕ) → Fault → List ℕ
fault_line source files fault =
    file_of_text source files fault.file ++ (codes "(" ++ decimal fault.line ++ codes "): E" ++ decimal fault.number
    ++ codes "\n")

-- the faults of a source, a line each
abbrev pub fault_lines : List ℕ → List (List ℕ) → List Fault → List ℕ
fault_lines source files faults = flat_map (fault_line source files) faults

-- the file argument of that index; the empty text if there is no such argument
abbrev pub word_at : List (List ℕ) → ℕ → List ℕ
word_at files word = slice_index_or files word []

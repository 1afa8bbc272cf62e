-- Reading a HEX file: the records of its lines, up to that of type 01, and the memory that they make.
use Rattle.std.specs.Prelude.{ℕ, ◌+◌, List, [], ◌∷◌, Option, Some, None, Result, Ok, Err}
use Rattle.std.specs.Str.Lines.{lines}
use Rattle.m51_cells.specs.Outcome.{◌>>=◌}
use Rattle.m51_hex.specs.declared.error.HexError.{HexError}
use Rattle.m51_hex.specs.declared.error.HexError.TheVariants.{H5, Memory as WantsMemory}
use Rattle.m51_hex.specs.declared.records.RecordType.{RecordType}
use Rattle.m51_hex.specs.declared.records.RecordType.TheVariants.{Data, EndOfFile}
use Rattle.m51_hex.specs.Line.{hex_record_of}
use Rattle.m51_hex.specs.Memory.{Memory, memory_in, memory_of, stored}
use Rattle.m51_hex.specs.Record.{HexRecord}

-- an error is the refusal itself; out of memory is none
abbrev pub image_refusal : HexError → Option HexError
image_refusal WantsMemory = None
image_refusal error = Some error

-- a line read over a memory: the type of its record, and the memory with its data
unfoldable pub line_read : Memory → ℕ → List ℕ → Result (RecordType × Memory) HexError
line_read memory number line = do
  r ← hex_record_of number line
  Ok (r.kind, stored memory r)

-- the type of a record, and the memory that an image fills
abbrev pub with_memory : List ℕ → RecordType → RecordType × Memory
with_memory image kind = (kind, memory_in image)

-- the records after one of this type; after a record of type 01 no line is read
abbrev pub records_after : RecordType → Result (List HexRecord) HexError → Result (List HexRecord) HexError
records_after Data others = others
records_after EndOfFile others = Ok []

-- the records of lines of which the first has this number, up to that of type 01; the first line that is refused; or H5
abbrev pub records_from : ℕ → List (List ℕ) → Result (List HexRecord) HexError
records_from number [] = Err H5
records_from number (line ∷ lines) = do
  r ← hex_record_of number line
  others ← records_after r.kind (records_from (number + 1) lines)
  Ok (r ∷ others)

-- The memory of a HEX file. Its lines end in a line feed or in a carriage return and a line feed; the last may lack its
-- end.
unfoldable pub memory_from : List ℕ → Result Memory HexError
memory_from text = do
  records ← records_from 1 (lines text)
  Ok (memory_of records)

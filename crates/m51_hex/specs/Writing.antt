-- The HEX file of an image and its runs.
use Rattle.std.specs.Prelude.{ℕ, ◌+◌, ◌*◌, ◌/◌, ◌≤◌, min, List, [], ◌++◌, map, flat_map}
use Rattle.std.specs.List.{range_with_len, slice_range}
use Rattle.m51_module.specs.declared.linked.Run.{Run}
use Rattle.m51_hex.specs.declared.records.RecordType.TheVariants.{Data, EndOfFile}
use Rattle.m51_hex.specs.Record.{HexRecord, line_of_record}

-- the address after the last byte of a run
abbrev pub end_of : Run → ℕ
end_of run = run.first + run.len

-- the run lies within program memory
abbrev pub IsRunWithin : Run → Type 0
IsRunWithin run = end_of run ≤ 0x10000

-- how many records a run has: one for each 16 bytes, and one for fewer that are left
abbrev pub count_of_records : Run → ℕ
count_of_records run = (run.len + 15) / 16

-- the record of that number: 16 bytes of the run, or those that are left, at the address of the first of them
unfoldable pub record_at : List ℕ → Run → ℕ → HexRecord
record_at image run number =
    let first = run.first + 16 * number in
    record { kind = Data; address = first; bytes = slice_range image first (min (first + 16) (end_of run)) }

-- the records of a run, by number
unfoldable pub records_of : List ℕ → Run → List HexRecord
records_of image run = map (record_at image run) (range_with_len 0 (count_of_records run))

-- the last record of a file
abbrev pub last_record : HexRecord
last_record = record { kind = EndOfFile; address = 0; bytes = [] }

-- the lines of the runs, and the last one
unfoldable pub hex_of : List ℕ → List Run → List ℕ
hex_of image runs = flat_map (λ run. flat_map line_of_record (records_of image run)) runs ++ line_of_record last_record

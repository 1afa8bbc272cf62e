-- The record of a line: its tests, in their order, and what it writes.
use Rattle.std.specs.Prelude.{ℕ, ◌+◌, ◌*◌, ◌%◌, Bool, not, ◌&&◌, ◌==◌, nat_le, if◌then◌else◌, List, [], ◌∷◌, length}
use Rattle.std.specs.Prelude.{take, drop, sum, slice_index, Result, Ok, Err}
use Rattle.std.specs.Char.{digit_value}
use Rattle.std.specs.List.{list_all}
use Rattle.m51_cells.specs.Hex.{is_hex_digit}
use Rattle.m51_cells.specs.Outcome.{◌>>=◌}
use Rattle.m51_hex.specs.declared.error.HexError.{HexError}
use Rattle.m51_hex.specs.declared.error.HexError.TheVariants.{H1, H2, H3, H4}
use Rattle.m51_hex.specs.declared.records.RecordType.TheVariants.{Data, EndOfFile}
use Rattle.m51_hex.specs.Record.{HexRecord, colon}

-- the bytes that digits write, two digits each
abbrev pub bytes_of_digits : List ℕ → List ℕ
bytes_of_digits [] = []
bytes_of_digits (last ∷ []) = []
bytes_of_digits (high ∷ low ∷ more) = (16 * digit_value high + digit_value low) ∷ bytes_of_digits more

-- The bytes of the line of this number. H1: it does not begin with a colon, nor does an empty line. H2: a character
-- after the colon is no hexadecimal digit. H3: the digits are odd in number.
unfoldable pub bytes_in : ℕ → List ℕ → Result (List ℕ) HexError
bytes_in number line =
    let digits = drop 1 line in
    if not (slice_index line 0 == colon) then Err (H1 number)
    else if not (list_all is_hex_digit digits) then Err (H2 number)
    else if not (length digits % 2 == 0) then Err (H3 number)
    else Ok (bytes_of_digits digits)

-- the count that the bytes of a record say
abbrev pub count_in : List ℕ → ℕ
count_in bytes = slice_index bytes 0

-- the address, its high byte first
abbrev pub record_address : List ℕ → ℕ
record_address bytes = 256 * slice_index bytes 1 + slice_index bytes 2

-- the byte of the type
abbrev pub type_in : List ℕ → ℕ
type_in bytes = slice_index bytes 3

-- The bytes have the form of a record: as many data as the count says, and five bytes of count, address, type and
-- checksum. The data of type 00 end at 10000H or below, and a record of type 01 has none.
unfoldable pub has_form : List ℕ → Bool
has_form bytes =
    length bytes == count_in bytes + 5
    && (if type_in bytes == 0 then nat_le (record_address bytes + count_in bytes) 0x10000
    else type_in bytes == 1 && count_in bytes == 0)

-- the record that such bytes write
unfoldable pub record_from : List ℕ → HexRecord
record_from bytes = record {
  kind = if type_in bytes == 0 then Data else EndOfFile;
  address = record_address bytes;
  bytes = take (count_in bytes) (drop 4 bytes);
}

-- The record that the bytes of the line of this number write. H3: they have not the form of one. H4: their sum, the
-- checksum among them, is no multiple of 256.
unfoldable pub record_in : ℕ → List ℕ → Result HexRecord HexError
record_in number bytes =
    if not (has_form bytes) then Err (H3 number)
    else if not (sum bytes % 256 == 0) then Err (H4 number)
    else Ok (record_from bytes)

-- the record of the line of this number, or the first test that it fails
unfoldable pub hex_record_of : ℕ → List ℕ → Result HexRecord HexError
hex_record_of number line = do
  bytes ← bytes_in number line
  record_in number bytes

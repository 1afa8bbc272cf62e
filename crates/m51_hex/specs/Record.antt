-- Records of Intel HEX, and the text of each.
use Rattle.std.specs.Prelude.{◌≡◌, ℕ, ◌+◌, ◌-◌, ◌/◌, ◌%◌, ◌<◌, ◌≤◌, List, [], ◌∷◌, ◌++◌, length, sum, flat_map, All}
use Rattle.m51_cells.specs.Hex.{hex2}
use Rattle.m51_hex.specs.declared.records.RecordType.{RecordType}
use Rattle.m51_hex.specs.declared.records.RecordType.TheVariants.{Data, EndOfFile}
use Rattle.m51_hex.specs.declared.records.HexRecord as code

-- what each record begins with
abbrev pub colon : ℕ
colon = 0x3A

-- what ends each line that is written
abbrev pub line_feed : ℕ
line_feed = 0x0A

-- a record: its type, its address, and the bytes that are its data
pub record HexRecord : Type 0 where
  pub kind : RecordType
  pub address : ℕ
  pub bytes : List ℕ

-- a record of the code, without where its data lie in memory
abbrev pub seen : code.HexRecord → HexRecord
seen r = record { kind = r.kind; address = r.address; bytes = r.bytes.now }

-- the byte that says the type
abbrev pub type_byte : RecordType → ℕ
type_byte Data = 0
type_byte EndOfFile = 1

-- the count of the data, the address with its high byte first, the type, and the data
unfoldable pub fields_of : HexRecord → List ℕ
fields_of r = length r.bytes ∷ (r.address / 256) ∷ (r.address % 256) ∷ type_byte r.kind ∷ r.bytes

-- the checksum: what brings the sum of the fields to a multiple of 256
unfoldable pub checksum_of : List ℕ → ℕ
checksum_of fields = (256 - sum fields % 256) % 256

-- the text of a record: a colon, then two digits for each byte of the fields and for the checksum
unfoldable pub hex_record_text : HexRecord → List ℕ
hex_record_text r = colon ∷ flat_map hex2 (fields_of r ++ checksum_of (fields_of r) ∷ [])

-- the line of a record
abbrev pub line_of_record : HexRecord → List ℕ
line_of_record r = hex_record_text r ++ line_feed ∷ []

-- what data a type takes: those of type 00 end at 10000H or below, and type 01 has none
abbrev pub TakesData : RecordType → ℕ → ℕ → Type 0
TakesData Data address count = address + count ≤ 0x10000
TakesData EndOfFile address count = count ≡ 0

-- what has a text
pub record IsRecord (r : HexRecord) : Type 0 where
  pub address : r.address < 0x10000
  pub count : length r.bytes < 256
  pub bytes : All (λ byte. byte < 256) r.bytes
  pub data_fit : TakesData r.kind r.address (length r.bytes)

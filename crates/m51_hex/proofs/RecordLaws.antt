-- The text of a record is read as that record, and a line that is read is the text of its record.
use Rattle.std.proofs.Common.{◌≡◌, ℕ, suc, ◌+◌, ◌-◌, ◌*◌, ◌/◌, ◌%◌, ◌<◌, Bool, true, not, cond, eqb, leb, ◌&&◌, List}
use Rattle.std.proofs.Common.{[], ◌∷◌, ◌++◌, length, take, drop, map, sum, get_or, slice_index, Result, Ok, Err, All}
use Rattle.std.proofs.Common.{refl, ap, sym, ◌∙◌}
use Rattle.std.proofs.Common.{arith}
use Rattle.std.specs.Prelude.{flat_map}
use Rattle.std.specs.Char.{to_ascii_uppercase}
use Rattle.std.specs.List.{list_all}
use Rattle.std.proofs.lemmas.Bool.{eq-eqb, eqb-true}
use Rattle.std.proofs.lemmas.Bool.Decides.{nat_tests}
use Rattle.std.proofs.lemmas.List.{length-append, length-take-le, take_all, take_at, take_more}
use Rattle.std.proofs.lemmas.List.Elements.{All-take}
use Rattle.std.proofs.lemmas.List.Sums.{sum_by-append}
use Rattle.m51_cells.specs.Hex.{hex2, is_hex_digit}
use Rattle.m51_cells.proofs.Members.{Every, all_every, every_all, every_append}
use Rattle.m51_cells.proofs.Passing.{step_value}
use Rattle.m51_hex.specs.declared.error.HexError.{HexError}
use Rattle.m51_hex.specs.declared.error.HexError.TheVariants.{H1, H2, H3}
use Rattle.m51_hex.specs.declared.records.RecordType.{RecordType}
use Rattle.m51_hex.specs.declared.records.RecordType.TheVariants.{Data, EndOfFile}
use Rattle.m51_hex.specs.Line.{bytes_of_digits, bytes_in, count_in, record_address, type_in, has_form, record_from}
use Rattle.m51_hex.specs.Line.{record_in, hex_record_of}
use Rattle.m51_hex.specs.Record.{HexRecord, IsRecord, TakesData, colon, type_byte, fields_of, checksum_of}
use Rattle.m51_hex.specs.Record.{hex_record_text}
use Rattle.m51_hex.proofs.DigitLaws.{Reads, bytes_below, digits_read, upper_digits, written_is_upper}

-- the bytes of a record: its fields and its checksum
abbrev pub whole_of : HexRecord → List ℕ
whole_of r = fields_of r ++ checksum_of (fields_of r) ∷ []

-- ---- a record that is written

type_below : (kind : RecordType) → type_byte kind < 256
type_below Data = omega arith
type_below EndOfFile = omega arith

whole_below : (r : HexRecord) → IsRecord r → Every (λ byte. byte < 256) (whole_of r)
unfolding fields_of checksum_of
whole_below r h =
    let bytes = all_every (λ byte. byte < 256) r.bytes h.bytes in
    let last = checksum_of (fields_of r) in (
      h.count,
      (
        omega (arith, h.address),
        (
          omega arith,
          (
            type_below r.kind,
            every_append (λ byte. byte < 256) r.bytes (last ∷ []) bytes (omega arith, tt),
          ),
        ),
      ),
    )

form_of : (kind : RecordType) (address count : ℕ) → TakesData kind address count
    → cond (eqb (type_byte kind) 0) (leb (address + count) 65536) (eqb (type_byte kind) 1 && eqb count 0) ≡ true
form_of Data address count h = grind (arith, nat_tests)
form_of EndOfFile address count h = grind (arith, nat_tests)

written_has_form : (r : HexRecord) → IsRecord r → has_form (whole_of r) ≡ true
unfolding has_form fields_of
written_has_form r h =
    let last = checksum_of (fields_of r) in
    let address : 256 * (r.address / 256) + r.address % 256 ≡ r.address = omega arith in
    rw (
      eq-eqb (suc (suc (suc (suc (length (r.bytes ++ last ∷ [])))))) (length r.bytes + 5)
          (omega (arith, length-append r.bytes (last ∷ []))),
      address,
    )
    (form_of r.kind r.address (length r.bytes) h.data_fit)

written_sum : (fields : List ℕ) → sum (fields ++ checksum_of fields ∷ []) % 256 ≡ 0
unfolding checksum_of
written_sum fields = omega (arith, sum_by-append (λ (x : ℕ). x) fields ((256 - sum fields % 256) % 256 ∷ []))

kind_back : (kind : RecordType) → cond (eqb (type_byte kind) 0) Data EndOfFile ≡ kind
kind_back Data = refl
kind_back EndOfFile = refl

written_is_record : (r : HexRecord) → record_from (whole_of r) ≡ r
unfolding record_from fields_of
written_is_record r =
    let last = checksum_of (fields_of r) in
    let address : 256 * (r.address / 256) + r.address % 256 ≡ r.address = omega arith in
    rw (kind_back r.kind, address, take_at r.bytes (last ∷ []) (length r.bytes) refl) refl

record_back : (number : ℕ) (digits : List ℕ) (r : HexRecord) → IsRecord r → Reads (whole_of r) digits
    → hex_record_of number (colon ∷ digits) ≡ Ok r
unfolding hex_record_of bytes_in record_in
record_back number digits r h reads =
    rw (reads.all, eq-eqb (length digits % 2) 0 reads.even, reads.is)
    (rw (written_has_form r h, eq-eqb (sum (whole_of r) % 256) 0 (written_sum (fields_of r)))
    (ap (λ (one : HexRecord). Ok one) (written_is_record r)))

first_is_colon : (first : ℕ) → to_ascii_uppercase first ≡ colon → first ≡ colon
first_is_colon first e = grind (arith, nat_tests)

-- the text of a record in either case is read as it
pub text_is_read : (number : ℕ) (line : List ℕ) (r : HexRecord) → IsRecord r → map to_ascii_uppercase line
    ≡ hex_record_text r → hex_record_of number line ≡ Ok r
unfolding hex_record_text
text_is_read number [] r h e = absurd cc
text_is_read number (first ∷ digits) r h e =
    rw (first_is_colon first (cc))
    (record_back number digits r h (digits_read (whole_of r) digits (whole_below r h) (cc)))

-- the text of a record, which is in upper case, is read as it
pub digits_read_back : (r : HexRecord) → IsRecord r → Reads (whole_of r) (flat_map hex2 (whole_of r))
digits_read_back r h =
    let below = whole_below r h in
    digits_read (whole_of r) (flat_map hex2 (whole_of r)) below (written_is_upper (whole_of r) below)

pub text_read_back : (number : ℕ) (r : HexRecord) → IsRecord r
    → hex_record_of number (colon ∷ flat_map hex2 (whole_of r)) ≡ Ok r
text_read_back number r h = record_back number (flat_map hex2 (whole_of r)) r h (digits_read_back r h)

-- ---- a line that is read

abbrev read_as : List ℕ → Result (List ℕ) HexError
read_as bytes = Ok bytes

-- the bytes of a line that is read as bytes
record LineReads (line bytes : List ℕ) : Type 0 where
  begins : slice_index line 0 ≡ colon
  digits : list_all is_hex_digit (drop 1 line) ≡ true
  even : length (drop 1 line) % 2 ≡ 0
  is : bytes_of_digits (drop 1 line) ≡ bytes

three_passed : (a b c : Bool) (d e f : HexError) (found bytes : List ℕ)
    → (cond (not a) (Err d) (cond (not b) (Err e) (cond (not c) (Err f) (read_as found)))) ≡ read_as bytes
    → (a ≡ true) × (b ≡ true) × (c ≡ true) × (found ≡ bytes)
three_passed a b c d e f found bytes h = grind arith

line_reads : (number : ℕ) (line bytes : List ℕ) → bytes_in number line ≡ Ok bytes → LineReads line bytes
unfolding bytes_in
line_reads number line bytes h =
    let digits = drop 1 line in
    let p = three_passed (eqb (slice_index line 0) colon) (list_all is_hex_digit digits) (eqb (length digits % 2) 0)
    (H1 number) (H2 number) (H3 number) (bytes_of_digits digits) bytes h in
    record { begins = eqb-true _ _ p.0; digits = p.1; even = eqb-true _ _ p.2; is = p.3 }

upper_line : (line bytes : List ℕ) → LineReads line bytes → map to_ascii_uppercase line ≡ colon ∷ flat_map hex2 bytes
upper_line [] bytes h = absurd (omega (arith, h.begins))
upper_line (first ∷ digits) bytes h = rw (h.begins, upper_digits digits h.digits h.even, h.is) refl

-- the count is that of the data, and the type takes them
record HasForm (bytes : List ℕ) : Type 0 where
  len : length bytes ≡ count_in bytes + 5
  type_is : type_byte (cond (eqb (type_in bytes) 0) Data EndOfFile) ≡ type_in bytes
  takes : TakesData (cond (eqb (type_in bytes) 0) Data EndOfFile) (record_address bytes) (count_in bytes)

form_parts : (bytes : List ℕ) → has_form bytes ≡ true → HasForm bytes
unfolding has_form
form_parts bytes h = grind (arith, nat_tests)

-- the last byte, where it brings the sum to a multiple of 256
checksum_is : (fields : List ℕ) (last : ℕ) → last < 256 → sum (fields ++ last ∷ []) % 256 ≡ 0 → checksum_of fields
    ≡ last
unfolding checksum_of
checksum_is fields last below h = omega (arith, sum_by-append (λ (x : ℕ). x) fields (last ∷ []), h)

-- what such bytes write
record Writes (bytes : List ℕ) : Type 0 where
  is : whole_of (record_from bytes) ≡ bytes
  record_is : IsRecord (record_from bytes)

abbrev bytes_with : ℕ → ℕ → ℕ → ℕ → List ℕ → List ℕ
bytes_with count high low type rest = count ∷ high ∷ low ∷ type ∷ rest

module _ (count high low type : ℕ) (rest : List ℕ)
    (below : All (λ byte. byte < 256) (bytes_with count high low type rest))
    (form : HasForm (bytes_with count high low type rest))
    (total : sum (bytes_with count high low type rest) % 256 ≡ 0) where
  data_len : length (take count rest) ≡ count
  data_len = length-take-le count rest (omega (arith, form.len))

  rest_is : rest ≡ take count rest ++ get_or rest count 0 ∷ []
  rest_is =
      sym (take_all (count + 1) rest (omega (arith, form.len))) ∙ take_more rest count 0 (omega (arith, form.len))

  fields_is : fields_of (record_from (bytes_with count high low type rest))
      ≡ bytes_with count high low type (take count rest)
  unfolding fields_of record_from
  fields_is =
      let high_is : (256 * high + low) / 256 ≡ high = omega (arith, below 2 0) in
      let low_is : (256 * high + low) % 256 ≡ low = omega (arith, below 2 0) in
      rw (data_len, high_is, low_is, form.type_is) refl

  last_is : checksum_of (bytes_with count high low type (take count rest)) ≡ get_or rest count 0
  last_is =
      checksum_is (bytes_with count high low type (take count rest)) (get_or rest count 0)
      (below (suc (suc (suc (suc count)))) 0 (omega (arith, form.len))) (rw (← rest_is) total)

  is_record : IsRecord (record_from (bytes_with count high low type rest))
  unfolding record_from
  is_record = record {
    address = omega (arith, below 1 0, below 2 0);
    count = omega (arith, data_len, below 0 0);
    bytes = All-take (λ byte. byte < 256) count rest
        (λ k d inside. below (suc (suc (suc (suc k)))) d (omega (arith, inside)));
    data_fit = rw data_len form.takes;
  }

  writes : Writes (bytes_with count high low type rest)
  writes = record {
    is = rw (fields_is, last_is) (sym (ap (bytes_with count high low type) rest_is));
    record_is = is_record;
  }

writes_by : (bytes : List ℕ) → All (λ byte. byte < 256) bytes → HasForm bytes → sum bytes % 256 ≡ 0 → Writes bytes
writes_by (count ∷ high ∷ low ∷ type ∷ rest) below form total = writes count high low type rest below form total
writes_by bytes below form total = absurd (omega (arith, form.len))

-- the record of the bytes of a line
bytes_write : (number : ℕ) (bytes : List ℕ) (r : HexRecord) → All (λ byte. byte < 256) bytes
    → record_in number bytes ≡ Ok r → Writes bytes × (record_from bytes ≡ r)
unfolding record_in
bytes_write number bytes r below h = grind (arith, nat_tests, form_parts bytes, writes_by bytes below)

-- a line that is read is the text of its record in either case
pub read_is_text : (number : ℕ) (line : List ℕ) (r : HexRecord) → hex_record_of number line ≡ Ok r → IsRecord r
    × (map to_ascii_uppercase line ≡ hex_record_text r)
unfolding hex_record_of hex_record_text
read_is_text number line r h =
    let bytes = step_value (bytes_in number line) (record_in number) r h in
    let reads = line_reads number line bytes.0 bytes.1 in
    let below : All (λ byte. byte < 256) bytes.0 =
    rw (← reads.is) (every_all (λ byte. byte < 256) _ (bytes_below (drop 1 line) reads.digits)) in
    let written = bytes_write number bytes.0 r below bytes.2 in (
      rw written.1 at written.0.record_is,
      upper_line line bytes.0 reads
          ∙ ap (λ (b : List ℕ). colon ∷ flat_map hex2 b) (sym written.0.is ∙ ap whole_of written.1),
    )

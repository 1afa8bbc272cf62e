-- What is written of an image is read as that image.
use Rattle.std.proofs.Common.{◌≡◌, ℕ, ◌+◌, ◌-◌, ◌*◌, ◌/◌, ◌<◌, ◌≤◌, ◌⊎◌, inl, inr, Bool, true, ◌||◌, min, leb, ltb}
use Rattle.std.proofs.Common.{◌&&◌, List, [], ◌∷◌, ◌++◌, length, take, drop, map, get_or, fold, Result, Ok, All, refl}
use Rattle.std.proofs.Common.{ap, ◌∙◌}
use Rattle.std.proofs.Common.{append_assoc, arith}
use Rattle.std.specs.Prelude.{flat_map, slice_index}
use Rattle.std.specs.List.{list_all, list_any, range_with_len, slice_split}
use Rattle.std.specs.Str.Lines.{lines, lines_of_parts, strip_carriage_return}
use Rattle.std.proofs.lemmas.Bool.{cases_Bool, cases_lt, ne_eqb}
use Rattle.std.proofs.lemmas.Bool.Decides.{nat_tests}
use Rattle.std.proofs.lemmas.List.{length-take-le, length-drop, get_or-take, get_or-drop, get_or_default, get_or_past}
use Rattle.std.proofs.lemmas.List.Concat.{flat_map-append}
use Rattle.std.proofs.lemmas.List.Folds.{list_any-append, list_any_at}
use Rattle.std.proofs.lemmas.List.FromFn.{get_or-map-range_with_len, length-map-range_with_len}
use Rattle.std.proofs.lemmas.List.Splits.{slice_split_at, length-slice_split}
use Rattle.m51_cells.specs.Hex.{hex2, is_hex_digit}
use Rattle.m51_cells.specs.Lines.{is_line_feed}
use Rattle.m51_cells.specs.Outcome.{◌>>=◌}
use Rattle.m51_cells.proofs.LineLaws.{ended}
use Rattle.m51_cells.proofs.Members.{Every, all_every, every_all, every_append, every_map, every_of, in_range}
use Rattle.m51_module.specs.declared.linked.Run.{Run}
use Rattle.m51_hex.specs.declared.error.HexError.{HexError}
use Rattle.m51_hex.specs.declared.records.RecordType.TheVariants.{Data}
use Rattle.m51_hex.specs.Laws.{is_in_run, is_in_runs, IsErasedOutside}
use Rattle.m51_hex.specs.Line.{bytes_in, has_form, record_from, record_in, hex_record_of}
use Rattle.m51_hex.specs.Memory.{Memory, memory_in, erased, stored, memory_of}
use Rattle.m51_hex.specs.Reading.{records_after, records_from, memory_from}
use Rattle.m51_hex.specs.Record.{HexRecord, IsRecord, colon, line_feed, fields_of, checksum_of, hex_record_text}
use Rattle.m51_hex.specs.Record.{line_of_record}
use Rattle.m51_hex.specs.Writing.{IsRunWithin, end_of, count_of_records, record_at, records_of, last_record, hex_of}
use Rattle.m51_hex.proofs.RecordLaws.{whole_of, digits_read_back, text_read_back}
use Rattle.m51_hex.proofs.StoredBytes.{same_memory}

-- ---- lines

-- no digit ends a line
digits_high : (digits : List ℕ) → list_all is_hex_digit digits ≡ true → Every (λ c. 48 ≤ c) digits
digits_high [] all = tt
digits_high (c ∷ cs) all = (grind (arith, nat_tests), digits_high cs (grind arith))

line_first : (digits rest : List ℕ) → list_all is_hex_digit digits ≡ true
    → lines ((colon ∷ digits) ++ line_feed ∷ rest) ≡ (colon ∷ digits) ∷ lines rest
line_first digits rest all =
    let high : All (λ c. 48 ≤ c) (colon ∷ digits) =
    every_all (λ c. 48 ≤ c) (colon ∷ digits) (omega arith, digits_high digits all) in
    let plain : strip_carriage_return (colon ∷ digits) ≡ colon ∷ digits =
    rw (ne_eqb (get_or (colon ∷ digits) (length (colon ∷ digits) - 1) 0) 13
    (λ e. omega (arith, e, high (length (colon ∷ digits) - 1) 0 (omega arith)))) refl in
    ap lines_of_parts (slice_split_at is_line_feed (colon ∷ digits) line_feed rest
    (λ k d below. ne_eqb (get_or (colon ∷ digits) k d) 10 (λ e. omega (arith, e, high k d below))) refl)
    ∙ ended (colon ∷ digits) (slice_split is_line_feed rest) (omega (arith, length-slice_split is_line_feed rest))
    ∙ ap (λ (line : List ℕ). line ∷ lines rest) plain

-- the line of a record is read as it, before the lines after it
one_back : (number : ℕ) (r : HexRecord) (rest : List ℕ) → IsRecord r
    → records_from number (lines (line_of_record r ++ rest))
    ≡ (records_after r.kind (records_from (number + 1) (lines rest)) >>= λ others. Ok (r ∷ others))
unfolding hex_record_text
one_back number r rest h =
    let digits = flat_map hex2 (whole_of r) in
    ap (λ (t : List ℕ). records_from number (lines (colon ∷ t))) (append_assoc digits (line_feed ∷ []) rest)
    ∙ ap (records_from number) (line_first digits rest (digits_read_back r h).all)
    ∙ rw (text_read_back number r h) refl

-- ---- the data of a run

-- a record of data, which are bytes of the image
record IsPart (image : List ℕ) (r : HexRecord) : Type 0 where
  is : IsRecord r
  kind : r.kind ≡ Data
  same : (address : ℕ) → r.address ≤ address → address < r.address + length r.bytes
      → slice_index r.bytes (address - r.address) ≡ memory_in image address

-- the address is one of the record's data
abbrev covers : ℕ → HexRecord → Bool
covers address r = leb r.address address && ltb address (r.address + length r.bytes)

-- the records of data of a file
abbrev data_of : List ℕ → List Run → List HexRecord
data_of image runs = flat_map (records_of image) runs

module _ (image : List ℕ) (run : Run) (whole : length image ≡ 65536) (within : IsRunWithin run) where
  -- where the record of that number begins, and how many bytes it has
  abbrev begin : ℕ → ℕ
  begin number = run.first + 16 * number

  abbrev count : ℕ → ℕ
  count number = min (begin number + 16) (end_of run) - begin number

  len_at : (number : ℕ) → length (take (count number) (drop (begin number) image)) ≡ count number
  len_at number =
      length-take-le (count number) (drop (begin number) image) (omega (arith, length-drop (begin number) image))

  byte_at : (number index d : ℕ) → index < count number
      → get_or (take (count number) (drop (begin number) image)) index d ≡ get_or image (begin number + index) d
  byte_at number index d below =
      get_or-take (count number) (drop (begin number) image) index d below ∙ get_or-drop (begin number) image index d

  -- a record of the run has a text
  part_at : (number : ℕ) → All (λ byte. byte < 256) image → number < count_of_records run
      → IsPart image (record_at image run number)
  unfolding record_at
  part_at number bytes below = record {
    is = record {
      address = omega arith;
      count = omega (arith, len_at number);
      bytes = λ k d inside. rw (byte_at number k d (omega (arith, len_at number)))
          (bytes (begin number + k) d (omega (arith, len_at number)));
      data_fit = omega (arith, len_at number);
    };
    kind = refl;
    same = λ address from inside.
        let there : begin number + (address - begin number) ≡ address = omega arith in
        byte_at number (address - begin number) 0 (omega (arith, len_at number))
        ∙ rw there (get_or_default image address 0 255 (omega (arith, len_at number)));
  }

  run_parts : All (λ byte. byte < 256) image → Every (IsPart image) (records_of image run)
  unfolding records_of
  run_parts bytes = every_map (record_at image run) (IsPart image) (range_with_len 0 (count_of_records run))
      (every_of (λ n. IsPart image (record_at image run n)) (range_with_len 0 (count_of_records run))
      (λ n has. part_at n bytes (omega (arith, in_range (count_of_records run) 0 n has))))

  -- an address of the run is one of a record
  covered_at : (address : ℕ) → is_in_run address run ≡ true
      → covers address (record_at image run ((address - run.first) / 16)) ≡ true
  unfolding record_at
  covered_at address h = grind (arith, nat_tests, len_at ((address - run.first) / 16))

  run_covers : (address : ℕ) → is_in_run address run ≡ true → list_any (covers address) (records_of image run) ≡ true
  unfolding records_of
  run_covers address h =
      let number = (address - run.first) / 16 in
      let inside : (run.first ≤ address) × (address < end_of run) = grind (arith, nat_tests) in
      let all = map (record_at image run) (range_with_len 0 (count_of_records run)) in
      list_any_at (covers address) all number (record_at image run 0)
      (omega (arith, length-map-range_with_len (record_at image run) 0 (count_of_records run)))
      (rw (get_or-map-range_with_len (record_at image run) 0 (count_of_records run) number number
      (record_at image run 0) (omega arith) (omega arith)) (covered_at address h))

-- ---- all runs

lines_joined : (image : List ℕ) (runs : List Run)
    → flat_map (λ run. flat_map line_of_record (records_of image run)) runs
    ≡ flat_map line_of_record (data_of image runs)
lines_joined image [] = refl
lines_joined image (run ∷ runs) =
    rw (lines_joined image runs, flat_map-append line_of_record (records_of image run) (data_of image runs)) refl

all_parts : (image : List ℕ) (runs : List Run) → length image ≡ 65536 → All (λ byte. byte < 256) image
    → Every IsRunWithin runs → Every (IsPart image) (data_of image runs)
all_parts image [] whole bytes within = tt
all_parts image (run ∷ runs) whole bytes within =
    every_append (IsPart image) (records_of image run) (data_of image runs)
    (run_parts image run whole within.0 bytes) (all_parts image runs whole bytes within.1)

all_cover : (image : List ℕ) (runs : List Run) (address : ℕ) → length image ≡ 65536 → Every IsRunWithin runs
    → is_in_runs address runs ≡ true → list_any (covers address) (data_of image runs) ≡ true
all_cover image [] address whole within h = absurd cc
all_cover image (run ∷ runs) address whole within h =
    rw (list_any-append (covers address) (records_of image run) (data_of image runs))
    (grind (arith, run_covers image run whole within.0 address, all_cover image runs address whole within.1))

-- a record leaves the byte of the image at its addresses, and what was there at others
next_stored : (image : List ℕ) (m : Memory) (r : HexRecord) (address : ℕ) (others : Bool) → IsPart image r
    → ((covers address r || others) ≡ true) ⊎ (m address ≡ memory_in image address)
    → (others ≡ true) ⊎ (stored m r address ≡ memory_in image address)
unfolding stored
next_stored image m r address others part h = grind (arith, nat_tests, part.same address)

all_stored : (image : List ℕ) (records : List HexRecord) (m : Memory) (address : ℕ) → Every (IsPart image) records
    → (list_any (covers address) records ≡ true) ⊎ (m address ≡ memory_in image address)
    → fold stored m (records ++ last_record ∷ []) address ≡ memory_in image address
unfolding stored
all_stored image [] m address parts h = grind arith
all_stored image (r ∷ records) m address parts h =
    all_stored image records (stored m r) address parts.1
    (next_stored image m r address (list_any (covers address) records) parts.0 h)

-- outside the runs the image is erased
erased_or_in : (image : List ℕ) (runs : List Run) (address : ℕ) → IsErasedOutside image runs
    → Every IsRunWithin runs
    → (list_any (covers address) (data_of image runs) ≡ true) ⊎ (erased address ≡ memory_in image address)
erased_or_in image runs address h within =
    elim (cases_Bool (is_in_runs address runs)) [
      | inl inside ↦ inl (all_cover image runs address h.whole within inside)
      | inr outside ↦ inr (grind (
        arith,
        cases_lt address 65536,
        get_or_default image address 255 0,
        get_or_past image address 255,
        h.outside address,
      ))
    ]

last_back : (number : ℕ) → records_from number (lines (line_of_record last_record)) ≡ Ok (last_record ∷ [])
unfolding hex_record_of bytes_in record_in has_form record_from hex_record_text fields_of checksum_of
last_back number = refl

-- the lines of records of data and of the last one are read as those records
records_back : (image : List ℕ) (number : ℕ) (records : List HexRecord) → Every (IsPart image) records
    → records_from number (lines (flat_map line_of_record records ++ line_of_record last_record))
    ≡ Ok (records ++ last_record ∷ [])
records_back image number [] parts = last_back number
records_back image number (r ∷ records) parts =
    rw (append_assoc (line_of_record r) (flat_map line_of_record records) (line_of_record last_record))
    (rw (
      one_back number r (flat_map line_of_record records ++ line_of_record last_record) parts.0.is,
      parts.0.kind,
      records_back image (number + 1) records parts.1,
    ) refl)

abbrev memory_as : Memory → Result Memory HexError
memory_as m = Ok m

pub written_is_read : (image : List ℕ) (runs : List Run) → IsErasedOutside image runs → memory_from (hex_of image runs)
    ≡ Ok (memory_in image)
unfolding memory_from hex_of
written_is_read image runs h =
    let within = all_every IsRunWithin runs h.within in
    let parts = all_parts image runs h.whole h.bytes within in
    rw (lines_joined image runs, records_back image 1 (data_of image runs) parts)
    (ap memory_as (same_memory (memory_of (data_of image runs ++ last_record ∷ [])) (memory_in image)
    (λ address. all_stored image (data_of image runs) erased address parts (erased_or_in image runs address h within))))

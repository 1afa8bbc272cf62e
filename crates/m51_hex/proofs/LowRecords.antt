-- The memory of a HEX file is that of an image: past the last address nothing is stored.
use Rattle.std.proofs.Common.{◌≡◌, ℕ, ◌+◌, ◌<◌, ◌≤◌, inl, inr, List, [], ◌∷◌, length, map, fold, Result, Ok, Err, refl}
use Rattle.std.proofs.Common.{ap}
use Rattle.std.proofs.Common.{sym, ◌∙◌, arith}
use Rattle.std.specs.List.{range_with_len}
use Rattle.std.specs.Str.Lines.{lines}
use Rattle.std.proofs.lemmas.Bool.Decides.{leb_tells}
use Rattle.std.proofs.lemmas.List.{get_or_past}
use Rattle.std.proofs.lemmas.List.FromFn.{get_or-map-range_with_len, length-map-range_with_len}
use Rattle.m51_cells.specs.Outcome.{◌>>=◌}
use Rattle.m51_cells.proofs.Passing.{same_Ok}
use Rattle.m51_hex.proofs.RecordLaws.{read_is_text}
use Rattle.m51_hex.proofs.StoredBytes.{same_memory, stored_after}
use Rattle.m51_hex.specs.declared.error.HexError.{HexError}
use Rattle.m51_hex.specs.declared.records.RecordType.{RecordType}
use Rattle.m51_hex.specs.declared.records.RecordType.TheVariants.{Data, EndOfFile}
use Rattle.m51_hex.specs.Line.{hex_record_of}
use Rattle.m51_hex.specs.Memory.{Memory, erased, memory_in, memory_of, stored}
use Rattle.m51_hex.specs.Reading.{memory_from, records_after, records_from}
use Rattle.m51_hex.specs.Record.{HexRecord, IsRecord, TakesData}
use Rattle.m51_module.specs.declared.image.TheConstants.{IMAGE_LEN}

-- a record ends at 10000H or below
ends_low : (kind : RecordType) (at count : ℕ) → at < 0x10000 → TakesData kind at count → at + count ≤ 0x10000
ends_low Data at count low takes = takes
ends_low EndOfFile at count low takes = omega (arith, low, takes)

-- records that are read store nothing at the address
abbrev IsFar : ℕ → Result (List HexRecord) HexError → Type 0
IsFar address (Ok records) = (m : Memory) → fold stored m records address ≡ m address
IsFar address (Err e) = Unit {0}

-- nor do those of lines, past the last address
far : (address number : ℕ) (text : List (List ℕ)) → 0x10000 ≤ address → IsFar address (records_from number text)
far address number [] high = tt
far address number (line ∷ text) high =
    by_record (hex_record_of number line) (λ r is. (read_is_text number line r is).0)
    (far address (number + 1) text high) where
      by_rest : (r : HexRecord) (kind : RecordType) (others : Result (List HexRecord) HexError)
          → ((m : Memory) → stored m r address ≡ m address) → IsFar address others
          → IsFar address (records_after kind others >>= λ records. Ok (r ∷ records))
      by_rest r Data (Ok records) one h = λ m. h (stored m r) ∙ one m
      by_rest r Data (Err e) one h = tt
      by_rest r EndOfFile others one h = one

      by_record : (one : Result HexRecord HexError) → ((r : HexRecord) → one ≡ Ok r → IsRecord r)
          → IsFar address (records_from (number + 1) text)
          → IsFar address (one >>= λ r. records_after r.kind (records_from (number + 1) text)
          >>= λ others. Ok (r ∷ others))
      by_record (Err e) is others = tt
      by_record (Ok r) is others =
          let low = ends_low r.kind r.address (length r.bytes) (is r refl).address (is r refl).data_fit in
          by_rest r r.kind (records_from (number + 1) text) (λ m. stored_after m r address (omega (arith, low, high)))
          others

far_erased : (text : List ℕ) (m : Memory) (address : ℕ) → 0x10000 ≤ address → memory_from text ≡ Ok m
    → m address ≡ 0xFF
unfolding memory_from
far_erased text m address high h = by_records (records_from 1 (lines text)) (far address 1 (lines text) high) h where
  by_records : (read : Result (List HexRecord) HexError) → IsFar address read
      → (read >>= λ records. Ok (memory_of records)) ≡ Ok m → m address ≡ 0xFF
  by_records (Ok records) stays e = ap (λ (n : Memory). n address) (sym (same_Ok {E = HexError} _ m e)) ∙ stays erased
  by_records (Err d) stays e = absurd cc

-- an image with the first bytes of a memory
module _ (m : Memory) (size : ℕ) where
  pub image_of : List ℕ
  image_of = map m (range_with_len 0 size)

  pub image_length : length image_of ≡ size
  unfolding image_of
  image_length = length-map-range_with_len m 0 size

  image_at : (address : ℕ) → ((past : ℕ) → size ≤ past → m past ≡ 0xFF) → memory_in image_of address ≡ m address
  unfolding image_of
  image_at address erases = elim (leb_tells size address) [
    | inl past ↦ get_or_past (map m (range_with_len 0 size)) address 0xFF
        (omega (arith, past.1, length-map-range_with_len m 0 size)) ∙ sym (erases address past.1)
    | inr below ↦ get_or-map-range_with_len m 0 size address address 0xFF (omega (arith, below.1)) (omega arith)
  ]

  pub image_is : ((past : ℕ) → size ≤ past → m past ≡ 0xFF) → memory_in image_of ≡ m
  image_is erases = same_memory (memory_in image_of) m (λ address. image_at address erases)

-- the image of a HEX file that is read
pub image_read : (text : List ℕ) (m : Memory) (size : ℕ) → size ≡ IMAGE_LEN → memory_from text ≡ Ok m
    → memory_from text ≡ Ok (memory_in (image_of m size))
image_read text m size whole h =
    h ∙ sym (ap (λ (n : Memory). Ok n)
    (image_is m size (λ past far. far_erased text m past (omega (arith, whole, far)) h)))

-- What is read of a library is spelled so, and what is spelled so is read.
use Rattle.std.proofs.Common.{◌≡◌, ℕ, ◌+◌, ◌≤◌, nat_le, List, [], ◌∷◌, ◌++◌, length, Ok, refl, sym, ap, ◌∙◌}
use Rattle.std.proofs.Common.{append-nil}
use Rattle.std.specs.List.{All, flat_map}
use Rattle.std.proofs.lemmas.Bool.{le-leb, leb-true}
use Rattle.std.proofs.lemmas.List.Elements.{All-head, All-tail}
use Rattle.m51_cells.specs.declared.limits.TheConstants.{MOST_MODULES}
use Rattle.m51_module.specs.declared.parts.ModuleParts.{ModuleParts}
use Rattle.m51_module.specs.Library.{IsLibrary}
use Rattle.m51_module.specs.Validity.{IsValid}
use Rattle.m51_records.specs.declared.types.TheConstants.{LIBRARY_HEADER}
use Rattle.m51_frame.specs.Fields.{pair}
use Rattle.m51_records.specs.Reading.{one_at, module_at}
use Rattle.m51_records.specs.Spelling.{bytes_of, records_in}
use Rattle.m51_records.proofs.FieldLaws.{IsBytes}
use Rattle.m51_records.proofs.Codec.{Agrees, then_fields, no_field, record_agrees, pair_codec}
use Rattle.m51_records.proofs.ModuleLaws.{module_again}
use Rattle.m51_records.proofs.SectionLaws.{one_takes, one_again}
use Rattle.m51_library.specs.Spelling.{count_record, library_bytes}
use Rattle.m51_library.specs.Reading.{count_in, modules_at, modules_of, library_of}
use Rattle.m51_library.proofs.Accepting.{accepted}

-- the number of modules is the field that was written

count_agrees : Agrees count_in pair (λ count. count ≤ MOST_MODULES)
unfolding count_in
count_agrees =
    record_agrees (then_fields (pair_codec (λ count. nat_le count MOST_MODULES)) (λ count. no_field))
    (λ (x : ℕ × Unit {0}). x.0) pair (λ count. count ≤ MOST_MODULES) (λ x g. (refl, leb-true x.0 MOST_MODULES g.0))
    (λ count few. ((count, tt), refl, (le-leb count MOST_MODULES few, tt)))

-- the first record
pub first_takes : (total : ℕ) (bytes : List ℕ) (count : ℕ) (rest : List ℕ) → IsBytes bytes
    → one_at LIBRARY_HEADER count_in total 0 bytes ≡ Ok (count, rest) → bytes ≡ count_record count ++ rest
first_takes total bytes count rest fits e =
    (one_takes LIBRARY_HEADER total 0 bytes (count, rest) count_agrees fits e).bytes_are

first_again : (total count : ℕ) (rest : List ℕ) → count ≤ MOST_MODULES
    → one_at LIBRARY_HEADER count_in total 0 (count_record count ++ rest) ≡ Ok (count, rest)
first_again total count rest few = one_again LIBRARY_HEADER count_agrees total 0 count rest few

-- that record, the modules and nothing else are a library
pub whole : (bytes rest after : List ℕ) (count : ℕ) (ms kept : List ModuleParts) → bytes ≡ count_record count ++ rest
    → rest ≡ flat_map bytes_of ms ++ after → length ms ≡ count
    → (kept ≡ ms) × (after ≡ []) → bytes ≡ library_bytes kept
whole bytes rest after count ms kept first others so_many same =
    first ∙ ap (λ (r : List ℕ). count_record count ++ r)
    (others ∙ ap (λ (r : List ℕ). flat_map bytes_of ms ++ r) same.1 ∙ append-nil (flat_map bytes_of ms))
    ∙ ap (λ (n : ℕ). count_record n ++ flat_map bytes_of ms) (sym so_many) ∙ ap library_bytes (sym same.0)

-- the modules
modules_again : (ms : List ModuleParts) (total number : ℕ) → All IsValid ms
    → modules_at (length ms) total number (flat_map bytes_of ms) ≡ Ok (ms, [])
unfolding modules_at
modules_again [] total number valid = refl
modules_again (m ∷ ms) total number valid =
    let one : module_at total number (bytes_of m ++ flat_map bytes_of ms) ≡ Ok (m, flat_map bytes_of ms) =
    module_again m (flat_map bytes_of ms) total number (All-head IsValid m ms valid) in
    let others : modules_at (length ms) total (number + records_in m) (flat_map bytes_of ms) ≡ Ok (ms, []) =
    modules_again ms total (number + records_in m) (All-tail IsValid m ms valid) in
    rw (one, others) refl

-- a library that is spelled is read
pub library_again : (ms : List ModuleParts) (bytes : List ℕ) → IsLibrary ms → All IsValid ms → bytes ≡ library_bytes ms
    → library_of bytes ≡ Ok ms
unfolding modules_of
library_again ms bytes library valid is =
    let first : one_at LIBRARY_HEADER count_in (length bytes) 0 bytes ≡ Ok (length ms, flat_map bytes_of ms) =
    ap (one_at LIBRARY_HEADER count_in (length bytes) 0) is
    ∙ first_again (length bytes) (length ms) (flat_map bytes_of ms) library.few in
    let others : modules_at (length ms) (length bytes) 1 (flat_map bytes_of ms) ≡ Ok (ms, []) =
    modules_again ms (length bytes) 1 valid in
    rw (first, others) (accepted [] ms library)

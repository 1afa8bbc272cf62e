-- The lines of records, put together from their parts, and those of a run, one more at a time.
use Rattle.std.proofs.Common.{◌≡◌, ℕ, ◌+◌, ◌%◌, ◌<◌, List, [], ◌∷◌, ◌++◌, map, sum, sym, append_assoc, arith}
use Rattle.std.specs.Prelude.{flat_map}
use Rattle.std.specs.List.{range_with_len}
use Rattle.std.proofs.lemmas.List.{flat_map_more}
use Rattle.std.proofs.lemmas.List.Concat.{flat_map-append}
use Rattle.std.proofs.lemmas.List.FromFn.{map-range_with_len_more}
use Rattle.std.proofs.lemmas.List.Sums.{sum_by-append}
use Rattle.m51_cells.specs.Hex.{hex2}
use Rattle.m51_module.specs.declared.linked.Run.{Run}
use Rattle.m51_hex.specs.Record.{HexRecord, colon, line_feed, fields_of, checksum_of, hex_record_text, line_of_record}
use Rattle.m51_hex.specs.Writing.{record_at}

-- a byte that brings the sum of both parts to a multiple of 256
pub checksum_of_parts : (front bytes : List ℕ) (byte : ℕ) → byte < 256
    → (byte + (sum front % 256 + sum bytes % 256) % 256) % 256 ≡ 0 → byte ≡ checksum_of (front ++ bytes)
unfolding checksum_of
checksum_of_parts front bytes byte fits zero = omega (arith, sum_by-append (λ (x : ℕ). x) front bytes, zero)

-- what is appended part by part is the line
pub line_of_parts : (text front : List ℕ) (r : HexRecord) → front ++ r.bytes ≡ fields_of r
    → ((((text ++ colon ∷ []) ++ flat_map hex2 front) ++ flat_map hex2 r.bytes) ++ hex2
    (checksum_of (front ++ r.bytes))) ++ line_feed ∷ [] ≡ text ++ line_of_record r
unfolding hex_record_text
line_of_parts text front r fields = rw (← fields) (simp (flat_map-append, append_assoc))

-- the lines of the first `count` records of a run
abbrev pub first_lines : List ℕ → Run → ℕ → List ℕ
first_lines image run count = flat_map line_of_record (map (record_at image run) (range_with_len 0 count))

pub first_lines_more : (image : List ℕ) (run : Run) (count : ℕ) → first_lines image run (count + 1)
    ≡ first_lines image run count ++ line_of_record (record_at image run count)
first_lines_more image run count =
    rw (map-range_with_len_more (record_at image run) 0 count count (omega arith)) (sym (flat_map_more line_of_record []
    (map (record_at image run) (range_with_len 0 count)) (record_at image run count)))

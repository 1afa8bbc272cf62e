-- Blanks, digits and lines in their columns.
use Rattle.std.proofs.Common.{◌≡◌, ℕ, ◌-◌, ◌*◌, ◌≤◌, List, [], ◌∷◌, ◌++◌, length, take, sym, ap, ◌∙◌, append_assoc}
use Rattle.std.proofs.Common.{arith}
use Rattle.std.specs.Prelude.{flat_map}
use Rattle.std.proofs.lemmas.List.{take-replicate, get_or-map}
use Rattle.m51_cells.specs.Hex.{hex2}
use Rattle.m51_print.specs.Listing.{blanks, left_in}

-- blanks from a row of six
pub blanks_of : (count : ℕ) → count ≤ 6 → take count (blanks 6) ≡ blanks count
blanks_of count few = take-replicate count 6 32 few

-- each byte has two digits
pub digit_count : (bytes : List ℕ) → length (flat_map hex2 bytes) ≡ 2 * length bytes
digit_count [] = omega arith
digit_count (byte ∷ bytes) = omega (arith, digit_count bytes)

-- digits and then blanks are left-aligned in their columns
pub in_places : (before bytes : List ℕ) → (before ++ flat_map hex2 bytes) ++ blanks (6 - 2 * length bytes) ≡ before
    ++ left_in 6 (flat_map hex2 bytes)
unfolding left_in
in_places before bytes =
    ap (λ n. (before ++ flat_map hex2 bytes) ++ blanks (6 - n)) (sym (digit_count bytes))
    ∙ append_assoc before (flat_map hex2 bytes) (blanks (6 - length (flat_map hex2 bytes)))

-- the text of a borrowed line
pub ruleset text_at = (get_or-map)

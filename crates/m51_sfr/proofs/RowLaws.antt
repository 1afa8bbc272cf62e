-- What the table promises of its names and addresses.
use Rattle.std.proofs.Common.{◌≡◌, ◌≢◌, ◌<◌, ◌≤◌, Bool, true, not, ◌&&◌, ltb, leb, List, [], ◌∷◌, ◌++◌, refl, arith}
use Rattle.std.specs.List.{AllPairs, list_all, slice_index_or}
use Rattle.std.specs.Str.{bytes_eq}
use Rattle.std.proofs.lemmas.Bool.{and_parts, both_ways, leb-true, ltb-true, not-true}
use Rattle.std.proofs.lemmas.List.Kept.{AllPairs-cons}
use Rattle.std.proofs.lemmas.List.Sums.{AllPass-from_list_all}
use Rattle.std.proofs.lemmas.Slice.Eq.{bytes_eq-Decides}
use Rattle.m51_sfr.specs.Registers.{Row, bits, registers, table}
use Rattle.m51_sfr.specs.Laws.{NamesDiffer, AddressesDiffer}

-- each row and each later one pass the test
abbrev pub pairs_pass : (Row → Row → Bool) → List Row → Bool
pairs_pass test [] = true
pairs_pass test (r ∷ rows) = list_all (test r) rows && pairs_pass test rows

-- a fact that the test shows holds of each row and each later one
pub pairs : (R : Row → Row → Type 0) (test : Row → Row → Bool) → ((r s : Row) → test r s ≡ true → R r s)
    → (rows : List Row) → pairs_pass test rows ≡ true → AllPairs R rows
pairs R test shows [] h = λ i j d before within. absurd (omega (arith, within))
pairs R test shows (r ∷ rows) h =
    let parts = and_parts (list_all (test r) rows) (pairs_pass test rows) h in
    AllPairs-cons R r rows
    (λ k d within. shows r (slice_index_or rows k d) (AllPass-from_list_all (test r) rows parts.0 k d within))
    (pairs R test shows rows parts.1)

-- two names differ
abbrev has_other_name : Row → Row → Bool
has_other_name r s = not (bytes_eq r.name s.name)

rows_differ : pairs_pass has_other_name (registers ++ bits) ≡ true
unfolding registers bits table
rows_differ = refl

name_differs : (r s : Row) → has_other_name r s ≡ true → r.name ≢ s.name
name_differs r s h =
    λ e. both_ways (bytes_eq r.name s.name) (not-true (bytes_eq r.name s.name) h) ((bytes_eq-Decides r.name s.name).1 e)

pub names_differ : NamesDiffer
names_differ = pairs (λ r s. r.name ≢ s.name) has_other_name name_differs (registers ++ bits) rows_differ

-- the first address is below the second
abbrev is_before : Row → Row → Bool
is_before r s = ltb r.address s.address

registers_ascend : pairs_pass is_before registers ≡ true
unfolding registers table
registers_ascend = refl

bits_ascend : pairs_pass is_before bits ≡ true
unfolding bits table
bits_ascend = refl

-- the address is one of a special function register, or of a bit of one
abbrev is_special : Row → Bool
is_special r = leb 0x80 r.address && leb r.address 0xFF

all_special : list_all is_special (registers ++ bits) ≡ true
unfolding registers bits table
all_special = refl

special : (r : Row) → is_special r ≡ true → (0x80 ≤ r.address) × (r.address ≤ 0xFF)
special r h =
    let parts = and_parts (leb 0x80 r.address) (leb r.address 0xFF) h in
    (leb-true 0x80 r.address parts.0, leb-true r.address 0xFF parts.1)

pub addresses_differ : AddressesDiffer
addresses_differ = record {
  register =
      pairs (λ r s. r.address < s.address) is_before
      (λ r s h. ltb-true r.address s.address h) registers registers_ascend;
  bit = pairs (λ r s. r.address < s.address) is_before (λ r s h. ltb-true r.address s.address h) bits bits_ascend;
  special =
      λ k d within. special (slice_index_or (registers ++ bits) k d)
      (AllPass-from_list_all is_special (registers ++ bits) all_special k d within);
}

-- Of the code: sets of pairs of units, kept as a row of bits for each unit.
use Rattle.std.specs.Prelude.{◌≡◌, ℕ, zero, suc, ◌<◌, ◌≤◌, Bool, false, ◌||◌, ◌&&◌, nat_eq, List, [], length}
use Rattle.std.specs.Prelude.{slice_index_or}
use Rattle.m51_cells.specs.declared.limits.TheConstants.{MOST_UNITS}
use Rattle.m51_relations.specs.Bits.{bit, words_for}

-- no pair is in the set
abbrev pub no_pair : ℕ → ℕ → Bool
no_pair u v = false

-- one more pair is in the set
abbrev pub with_pair : ℕ → ℕ → (ℕ → ℕ → Bool) → ℕ → ℕ → Bool
with_pair from to has u v = (nat_eq u from && nat_eq v to) || has u v

-- the pairs reversed
abbrev pub flipped : (ℕ → ℕ → Bool) → ℕ → ℕ → Bool
flipped has u v = has v u

-- the pairs joined by walks along pairs of the set, of which all units between the ends are below the bound
unfoldable pub closed_below : ℕ → (ℕ → ℕ → Bool) → ℕ → ℕ → Bool
closed_below zero has u v = has u v
closed_below (suc k) has u v = closed_below k has u v || (closed_below k has u k && closed_below k has k v)

-- the pairs of a set, and those joined by a pair of the tests to a unit below the bound and then a pair of another set
unfoldable pub passed_below : (ℕ → ℕ → Bool) → (ℕ → ℕ → Bool) → (ℕ → ℕ → Bool) → ℕ → ℕ → ℕ → Bool
passed_below tests others has zero u v = has u v
passed_below tests others has (suc k) u v = passed_below tests others has k u v || (tests u k && others k v)

-- the row of the first unit has the bit of the second
abbrev pub pair_at : List (List ℕ) → ℕ → ℕ → Bool
pair_at rows u v = bit (slice_index_or rows u []) v

-- a set of pairs of units, which are numbered below `count`
pub record BitTable : Type 0 where
  pub count : ℕ
  pub rows : List (List ℕ)

-- the pairs of the set
abbrev pub pairs : BitTable → ℕ → ℕ → Bool
pairs table = pair_at table.rows

-- rows of the same number of words
abbrev pub AreWide : ℕ → List (List ℕ) → Type 0
AreWide words rows = (u : ℕ) → u < length rows → length (slice_index_or rows u []) ≡ words

-- a row for each of `count` units
pub record AreRows (count : ℕ) (rows : List (List ℕ)) : Type 0 where
  pub few : count ≤ MOST_UNITS
  pub len : length rows ≡ count
  pub wide : AreWide (words_for count) rows

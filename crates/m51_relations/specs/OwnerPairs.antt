-- Of the code: how it decides from tables which units may be active together, each of which lies under at most one
-- root.
use Rattle.std.specs.Prelude.{◌≡◌, ℕ, ◌<◌, Bool, true, false, not, ◌||◌, nat_eq, List, slice_index}
use Rattle.m51_relations.specs.declared.owner_pairs.OwnerPairs.{OwnerPairs}
use Rattle.m51_relations.specs.Rows.{BitTable, flipped, pairs, passed_below}

-- by their bytes, one unit lies under no root, or they lie under different ones
abbrev pub are_apart : ℕ → ℕ → Bool
are_apart one two = nat_eq two 0 || not (nat_eq one two)

-- they are one unit, one reaches the other, or their roots are not one and the same
abbrev pub related_by : (ℕ → ℕ → Bool) → List ℕ → ℕ → ℕ → Bool
related_by reach under one two =
    nat_eq one two || reach one two || reach two one || are_apart (slice_index under one) (slice_index under two)

-- the pairs of units of which the second is related to the first
pub record AreRelatedPairs (reach : ℕ → ℕ → Bool) (under : List ℕ) (count : ℕ) (set : BitTable) : Type 0 where
  pub count_is : set.count ≡ count
  pub each : (u v : ℕ) → u < count → v < count → pairs set u v ≡ related_by reach under v u

-- the pairs of own units of segments of which owners are related: plain where neither is an argument segment, first
-- where the first is one, second where the second is one, both where both are
pub record AreOwnerPairs (edges reach : ℕ → ℕ → Bool) (under : List ℕ) (count : ℕ) (s : OwnerPairs) : Type 0 where
  pub plain : AreRelatedPairs reach under count s.plain
  pub first : (u v : ℕ) → u < count
      → pairs s.first u v ≡ passed_below (flipped edges) (pairs s.plain) (pairs s.plain) count u v
  pub second : (u v : ℕ) → u < count → pairs s.second u v ≡ passed_below (pairs s.plain) edges (pairs s.plain) count u v
  pub both : (u v : ℕ) → u < count
      → pairs s.both u v ≡ passed_below (flipped edges) (pairs s.second) (pairs s.second) count u v

-- the pair is in the set for such segments
abbrev pub owner_pair : OwnerPairs → Bool → Bool → ℕ → ℕ → Bool
owner_pair s false false = pairs s.plain
owner_pair s true false = pairs s.first
owner_pair s false true = pairs s.second
owner_pair s true true = pairs s.both

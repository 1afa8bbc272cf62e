-- The rows of owners and of locals, extended by one pair and by one segment at a time, and those of a sound layout.
use Rattle.std.proofs.lemmas.Grind.{common_steps}
use Rattle.std.proofs.Common.{◌≡◌, ◌⊎◌, inl, inr, ℕ, zero, suc, ◌+◌, ◌<◌, List, [], ◌∷◌, ◌++◌, length, sym, subst}
use Rattle.std.proofs.Common.{◌∙◌, arith}
use Rattle.std.specs.Prelude.{slice_index_or, slice_set, take}
use Rattle.std.specs.List.{All, Contains}
use Rattle.std.proofs.lemmas.Bool.Decides.{eqb_tells}
use Rattle.std.proofs.lemmas.List.{get_or_default, get_or-take, length-set, length-take-le, get_or-set_same}
use Rattle.std.proofs.lemmas.List.{get_or-set_other, take_more}
use Rattle.std.proofs.lemmas.List.Elements.{Contains-push, Contains-push_cases, Contains-get_or}
use Rattle.std.proofs.lemmas.List.Quantifiers.{all_pairs_push}
use Rattle.std.proofs.lemmas.Option.{slice_get_within}
use Rattle.m51_cells.proofs.Small.{contains_first}
use Rattle.m51_module.specs.declared.parts.LayoutParts.{LayoutParts}
use Rattle.m51_module.specs.Kept.{AreDifferent, AreOwnerRows, AreSegmentsOf, AreLocalRows, HaveRows, IsAddedAt}
use Rattle.m51_module.specs.Kept.{IsRowAlong}
use Rattle.m51_module.specs.Plan.{owners_of, AreLocals, IsOverlaid}
use Rattle.m51_module.specs.Sound.{HasOwners, IsSound}
use Rattle.m51_module.proofs.Owning.{contains_behind, none_in_empty, owner_of_pair}
use Rattle.m51_module.proofs.Units.{same_or_not}

-- a pair of the list has a row
pub pair_within : (count : ℕ) (owners : List (ℕ × ℕ)) (i : ℕ) → HaveRows count owners → i < length owners
    → (slice_index_or owners i (0, 0)).0 < count
pair_within count owners i h below = h _ _ (Contains-get_or owners i (0, 0) below)

-- one more pair
owner_more : (owners : List (ℕ × ℕ)) (count : ℕ) (rows : List (List ℕ)) (pair : ℕ × ℕ)
    → AreOwnerRows owners count rows → pair.0 < count
    → AreOwnerRows (owners ++ pair ∷ []) count (slice_set rows pair.0 (slice_index_or rows pair.0 [] ++ pair.1 ∷ []))
owner_more owners count rows pair h below =
    grind (arith, common_steps, length-set, get_or-set_same, get_or-set_other, eqb_tells)

pub owner_rows_more : (owners : List (ℕ × ℕ)) (count i : ℕ) (rows : List (List ℕ)) → HaveRows count owners
    → i < length owners → AreOwnerRows (take i owners) count rows
    → AreOwnerRows (take (i + 1) owners) count
    (slice_set rows (slice_index_or owners i (0, 0)).0
    (slice_index_or rows (slice_index_or owners i (0, 0)).0 [] ++ (slice_index_or owners i (0, 0)).1 ∷ []))
owner_rows_more owners count i rows have below h =
    rw (take_more owners i (0, 0) below)
    (owner_more (take i owners) count rows _ h (pair_within count owners i have below))

-- a row of the list does not depend on the default for one that is missing
pub row_is : (rows : List (List ℕ)) (index : ℕ) (row : List ℕ) → index < length rows → row
    ≡ slice_index_or rows index row → slice_index_or rows index [] ≡ row
row_is rows index row below is = grind (arith, get_or_default)

-- a number is in a list or not
pub among_or_not : (xs : List ℕ) (x : ℕ) → Contains xs x ⊎ (Contains xs x → ⊥)
among_or_not [] x = inr (none_in_empty x)
among_or_not (y ∷ ys) x = grind (arith, same_or_not y x, among_or_not ys x, contains_first y ys, contains_behind)

-- one more unit, which is not among those before it
pub added_more : (units : List ℕ) (segment : ℕ) (old new : List (List ℕ)) (u : ℕ) → IsAddedAt units segment old new
    → u < length old → (Contains units u → ⊥)
    → IsAddedAt (units ++ u ∷ []) segment old (slice_set new u (slice_index_or new u [] ++ segment ∷ []))
added_more units segment old new u h below without =
    let row : List ℕ = slice_index_or new u [] ++ segment ∷ [] in
    let there : u < length new = omega (arith, h.len, below) in
    record {
      len = length-set new u row ∙ h.len;
      added = λ v c. grind (
        arith,
        common_steps,
        same_or_not v u,
        h.same u without,
        get_or-set_other new u v row [],
        Contains-push_cases units u v c,
        h.added v,
      );
      same = λ v none. get_or-set_other new u v row []
          (λ e. none (rw e (Contains-push units u)))
          ∙ h.same v (grind (arith, common_steps));
    }

-- a number of different ones is not among those before it
pub different_before : (xs : List ℕ) (i d : ℕ) → AreDifferent xs → i < length xs
    → Contains (take i xs) (slice_index_or xs i d) → ⊥
different_before xs i d differ below (k, within, is) =
    let low : k < i = grind (arith, length-take-le) in
    differ k i d low below
    (grind (arith, get_or_default, get_or-take))

-- the unit is not in the next row, so its segments stay the same
segment_passed : (rows : List (List ℕ)) (unit count : ℕ) (segments : List ℕ) → AreSegmentsOf rows unit count segments
    → (Contains (slice_index_or rows count []) unit → ⊥) → AreSegmentsOf rows unit (count + 1) segments
segment_passed rows unit count segments h without = record {
  rising = h.rising;
  listed = λ s c. let k = h.listed s c in (omega (arith, k.0), k.1);
  all = grind arith;
}

-- the unit is in the next row, so that segment is one more of its own
segment_found : (rows : List (List ℕ)) (unit count : ℕ) (segments : List ℕ) → AreSegmentsOf rows unit count segments
    → Contains (slice_index_or rows count []) unit → AreSegmentsOf rows unit (count + 1) (segments ++ count ∷ [])
segment_found rows unit count segments h within = record {
  rising = all_pairs_push (λ one two. one < two) segments count h.rising
      (λ k d below. (h.listed (slice_index_or segments k d) (Contains-get_or segments k d below)).0);
  listed = λ s c. elim (Contains-push_cases segments count s c) [
    | inl before ↦ (let k = h.listed s before in (omega (arith, k.0), k.1))
    | inr last ↦ (grind arith)
  ];
  all = λ s below c. grind (arith, common_steps, h.all s, Contains-push segments count);
}

-- one more row
pub local_rows_more : (owner_rows : List (List ℕ)) (units count : ℕ) (old new : List (List ℕ)) (row : List ℕ)
    → AreLocalRows owner_rows units count old
    → slice_index_or owner_rows count [] ≡ row → IsAddedAt row count old new
    → AreLocalRows owner_rows units (count + 1) new
local_rows_more owner_rows units count old new row h is added = record {
  len = added.len ∙ h.len;
  each = λ u below. elim (among_or_not row u) [
    | inl within ↦ rw (added.added u within) (segment_found owner_rows u count (slice_index_or old u [])
        (h.each u below) (subst (λ r. Contains r u) (sym is) within))
    | inr without ↦ rw (added.same u without) (segment_passed owner_rows u count (slice_index_or old u [])
        (h.each u below) (λ c. without (subst (λ r. Contains r u) is c)))
  ];
}

-- the row of a segment is its owners
pub owners_of_row : (owners : List (ℕ × ℕ)) (count : ℕ) (rows : List (List ℕ)) (segment : ℕ) (row : List ℕ)
    → AreOwnerRows owners count rows → segment < count
    → row ≡ slice_index_or rows segment row → row ≡ owners_of owners segment
owners_of_row owners count rows segment row kept below is = grind (arith, row_is)

-- the row of a unit lists the overlaid segments that it owns
pub locals_of_row : (l : LayoutParts) (owner_rows local_rows : List (List ℕ)) (unit : ℕ) (row : List ℕ) → IsSound l
    → AreOwnerRows l.owners (length l.placed) owner_rows
    → AreLocalRows owner_rows (length l.units) (length owner_rows) local_rows → unit < length l.units
    → row ≡ slice_index_or local_rows unit row → AreLocals l unit row
locals_of_row l owner_rows local_rows unit row sound kept locals below is =
    let are = rw (row_is local_rows unit row (omega arith) is) at (locals.each unit below) in
    record {
      rising = are.rising;
      owned = λ s. (
        grind (arith, are.listed s),
        (λ owns.
            let o = (sound.owned unit s owns).1 in
            grind (arith, slice_get_within)),
      );
    }

-- each pair of a sound layout has a row
pub owners_have_rows : (l : LayoutParts) → IsSound l → HaveRows (length l.placed) l.owners
owners_have_rows l sound s u pair =
    let o = (sound.owned u s (owner_of_pair l.owners s u pair)).1 in
    slice_get_within l.placed s o.0 o.1

-- an own unit and others that ascend are different
owners_differ : (owners : List ℕ) → HasOwners owners → AreDifferent owners
owners_differ owners h = rw h.are all where
  all : AreDifferent (h.own ∷ h.others)
  all i zero d less below = absurd (omega (arith, less))
  all zero (suc j) d less below =
      λ e. h.different (j, omega (arith, below), get_or_default h.others j h.own d (omega (arith, below)) ∙ sym e)
  all (suc i) (suc j) d less below = λ e. omega (arith, e, h.rising i j d (omega (arith, less)) (omega (arith, below)))

-- the owners of any extent are different units
row_of : (l : LayoutParts) → IsSound l → (s : ℕ) → IsRowAlong (length l.units) (owners_of l.owners s)
row_of l sound s = record {
  units = λ k d below. (owned k d below).0;
  different = λ i j d less below.
      owners_differ (owners_of l.owners s) (sound.owners s (owned j d below).1) i j d less below;
} where
  owned : (k d : ℕ) → k < length (owners_of l.owners s) → (slice_index_or (owners_of l.owners s) k d < length l.units)
      × IsOverlaid l s
  owned k d below = sound.owned _ s (Contains-get_or (owners_of l.owners s) k d below)

pub rows_along : (l : LayoutParts) (rows : List (List ℕ)) → IsSound l → AreOwnerRows l.owners (length l.placed) rows
    → All (IsRowAlong (length l.units)) rows
rows_along l rows sound h k d below =
    subst (IsRowAlong (length l.units))
    (grind (arith, get_or_default)) (row_of l sound k)

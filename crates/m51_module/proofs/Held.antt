-- Libraries: what their edits keep, and what these answer.
use Rattle.std.proofs.lemmas.Grind.{common_steps}
use Rattle.std.proofs.Common.{◌≡◌, ◌≢◌, inl, inr, ℕ, zero, suc, ◌+◌, ◌-◌, ◌<◌, nat_le, Bool, true, false, cond, not}
use Rattle.std.proofs.Common.{List, [], ◌∷◌, ◌++◌, length, get_or, take, drop, map, add-one, length-drop, Option, Some}
use Rattle.std.proofs.Common.{None, refl, sym, ◌∙◌, arith}
use Rattle.std.specs.Prelude.{slice_set, filter, position, remove, option_map, Ok}
use Rattle.std.specs.List.{All, AllPairs, find}
use Rattle.std.specs.Str.{bytes_eq}
use Rattle.std.proofs.lemmas.Bool.{cases_order}
use Rattle.std.proofs.lemmas.Slice.Eq.{bytes_eq-Decides}
use Rattle.std.proofs.lemmas.List.{get_or_default, length-set, get_or-set_same, get_or-set_other, take_all, take_more}
use Rattle.std.proofs.lemmas.List.{drop_more}
use Rattle.std.proofs.lemmas.List.Folds.{list_any_at, map_fixed}
use Rattle.std.proofs.lemmas.List.Quantifiers.{all_pairs_push, all_pairs_remove, position-Some}
use Rattle.std.proofs.lemmas.List.Recursion.{found_at}
use Rattle.m51_module.specs.Arguments.{raised}
use Rattle.m51_module.specs.declared.edit.Edit.{Edit}
use Rattle.m51_module.specs.declared.library_error.LibError.{LibError}
use Rattle.m51_module.specs.declared.library_error.LibError.TheVariants.{B3}
use Rattle.m51_module.specs.declared.parts.ModuleParts.{ModuleParts}
use Rattle.m51_module.specs.declared.symbol.Public.{Public}
use Rattle.m51_module.specs.Edits.{after_edit, after_edits}
use Rattle.m51_module.specs.Library.{IsLibrary, ShareNoPublic, is_named, holds, defines, clash, add_refusal, added_each}
use Rattle.m51_module.specs.Library.{others_than, with_replaced, value_unless, extracted, deleted, replaced, raised_in}

-- the element at that index passes, and no other
pub record PassesAlone {X : Type 0} (p : X → Bool) (xs : List X) (i : ℕ) : Type 0 where
  pub within : i < length xs
  pub here : (d : X) → p (get_or xs i d) ≡ true
  pub others : (k : ℕ) (d : X) → k < length xs → k ≢ i → p (get_or xs k d) ≡ false

-- of two different numbers one is less
one_less : (k i : ℕ) {P : Type 0} → k ≢ i → (k < i → P) → (i < k → P) → P
one_less k i ne below above =
    elim (cases_order k i) [ inl e ↦ absurd (ne e) | inr (inl less) ↦ below less | inr (inr more) ↦ above more ]

-- it is what the search finds
found_alone : {X : Type 0} (p : X → Bool) (xs : List X) (i : ℕ) (d : X) → PassesAlone p xs i → find p xs
    ≡ Some (get_or xs i d)
found_alone p xs i d h = found_at (find p) p Some None refl (λ y ys. refl) xs i d h.within (grind arith) (h.here d)

-- where no index is found, no element is
pub found_nowhere : {X : Type 0} (p : X → Bool) (xs : List X) → position p xs ≡ None → find p xs ≡ None
found_nowhere p [] h = refl
found_nowhere p (x ∷ xs) h = grind (arith, found_nowhere p xs)

-- what nothing found says of each element
none_passes : {X : Type 0} (p : X → Bool) (xs : List X) → find p xs ≡ None → (k : ℕ) (d : X) → k < length xs
    → p (get_or xs k d) ≡ false
none_passes p [] h k d lt = absurd (omega (arith, lt))
none_passes p (x ∷ xs) h zero d lt = grind arith
none_passes p (x ∷ xs) h (suc k) d lt = none_passes p xs (grind arith) k d (omega (arith, lt))

-- one that is not the first is among the others
later_alone : {X : Type 0} (p : X → Bool) (x : X) (xs : List X) (i : ℕ) → PassesAlone p (x ∷ xs) (suc i)
    → PassesAlone p xs i
later_alone p x xs i h = record {
  within = omega (arith, h.within);
  here = h.here;
  others = λ k d lt ne. h.others (suc k) d (omega (arith, lt)) (omega (arith, ne));
}

-- where only the first passes, none of the others does
none_later : {X : Type 0} (p : X → Bool) (x : X) (xs : List X) → PassesAlone p (x ∷ xs) 0 → (k : ℕ) (d : X)
    → k < length xs → p (get_or xs k d) ≡ false
none_later p x xs h k d lt = h.others (suc k) d (omega (arith, lt)) (omega arith)

kept_all : {X : Type 0} (p : X → Bool) (xs : List X) → ((k : ℕ) (d : X) → k < length xs → p (get_or xs k d) ≡ false)
    → filter (λ x. not (p x)) xs ≡ xs
kept_all p [] h = refl
kept_all p (x ∷ xs) h =
    rw (h 0 x (omega arith), kept_all p xs (λ k d lt. h (suc k) d (omega (arith, lt)))) refl

-- without it, the others are left in their order
removed_alone : {X : Type 0} (p : X → Bool) (xs : List X) (i : ℕ) → PassesAlone p xs i → remove xs i
    ≡ filter (λ x. not (p x)) xs
removed_alone p [] i h = grind arith
removed_alone p (x ∷ xs) zero h = rw (h.here x) (sym (kept_all p xs (none_later p x xs h)))
removed_alone p (x ∷ xs) (suc i) h =
    rw (h.others 0 x (omega arith) (omega arith), removed_alone p xs i (later_alone p x xs i h)) refl

-- what a function makes of it in its place
changed_alone : {X : Type 0} (p : X → Bool) (f : X → X) (xs : List X) (i : ℕ) (d : X) → PassesAlone p xs i
    → slice_set xs i (f (get_or xs i d)) ≡ map (λ x. cond (p x) (f x) x) xs
changed_alone p f [] i d h = refl
changed_alone p f (x ∷ xs) zero d h =
    let rest : map (λ z. cond (p z) (f z) z) xs ≡ xs =
    map_fixed (λ z. cond (p z) (f z) z) xs (λ k d lt. cc (none_later p x xs h k d lt)) in
    rw (h.here x) (cc)
changed_alone p f (x ∷ xs) (suc i) d h =
    rw (h.others 0 x (omega arith) (omega arith), changed_alone p f xs i d (later_alone p x xs i h)) refl

-- a relation of each pair, where it holds both ways: what one element has with each other one
pub each_other : {X : Type 0} (R : X → X → Type 0) → ((x y : X) → R x y → R y x) → (xs : List X) (i : ℕ) (y : X)
    → AllPairs R xs → i < length xs → ((d : X) → get_or xs i d ≡ y)
    → (k : ℕ) (d : X) → k < length xs → k ≢ i → R (get_or xs k d) y
each_other R back xs i y all within is k d lt ne = one_less k i ne
    (λ less. rw (is d) at (all k i d less within)) (λ more. back _ _ (rw (is d) at (all i k d more lt)))

-- and after an element is set that has it with each other one
pairs_set : {X : Type 0} (R : X → X → Type 0) → ((x y : X) → R x y → R y x) → (xs : List X) (i : ℕ) (y : X)
    → i < length xs → AllPairs R xs → ((k : ℕ) (d : X) → k < length xs → k ≢ i → R (get_or xs k d) y)
    → AllPairs R (slice_set xs i y)
pairs_set R back xs i y lt h with_y a b d below inside =
    grind (arith, length-set, get_or-set_other, get_or-set_same, h, with_y, back)

-- their names differ
abbrev NamesDiffer : ModuleParts → ModuleParts → Type 0
NamesDiffer m n = m.name ≢ n.name

differ_back : (m n : ModuleParts) → NamesDiffer m n → NamesDiffer n m
differ_back m n differ e = differ (sym e)

pub apart_back : (m n : ModuleParts) → ShareNoPublic m n → ShareNoPublic n m
apart_back m n h p q p_in q_in same = h q p q_in p_in (sym same)

same_bytes : (one two : List ℕ) → one ≡ two → bytes_eq one two ≡ true
same_bytes one two e = (bytes_eq-Decides one two).1 e

equal_bytes : (one two : List ℕ) → bytes_eq one two ≡ true → one ≡ two
equal_bytes one two h = (bytes_eq-Decides one two).0 h

-- the index of what passes is inside the list
pub index_within : {X : Type 0} (p : X → Bool) (xs : List X) (i : ℕ) → position p xs ≡ Some i → i < length xs
index_within p [] i h = absurd (cc h)
index_within p (x ∷ xs) i h = (position-Some p (x ∷ xs) i x h).0

-- in a library, a name that a module has is the name of only that module
named_alone : (name : List ℕ) (ms : List ModuleParts) (i : ℕ) → IsLibrary ms
    → position (is_named name) ms ≡ Some i → PassesAlone (is_named name) ms i
named_alone name ms i h found =
    let at : (e : ModuleParts) → (i < length ms) × (is_named name (get_or ms i e) ≡ true)
    × ((k : ℕ) → k < i → is_named name (get_or ms k e) ≡ false) =
    λ e. position-Some (is_named name) ms i e found in
    record {
      within = index_within (is_named name) ms i found;
      here = λ e. (at e).1;
      others = λ k e lt ne. one_less k i ne ((at e).2 k) (grind (arith, equal_bytes));
    }

no_clash : (o : Option Public) → ◌≡◌ {A = Option LibError} (option_map (λ (p : Public). B3 p.name) o) None → o ≡ None
no_clash o h = grind arith

-- where nothing clashes, no module shares a public with the one that comes in
apart : (ms : List ModuleParts) (new : ModuleParts) → clash ms new ≡ None → (k : ℕ) (d : ModuleParts)
    → k < length ms → ShareNoPublic (get_or ms k d) new
apart ms new free k d lt p q p_in q_in same =
    let none = none_passes (λ (r : Public). defines ms r.name) new.publics (no_clash _ free) q_in.0 q q_in.1 in
    let named : bytes_eq (get_or (get_or ms k d).publics p_in.0 p).name q.name ≡ true =
    same_bytes _ _ (grind arith ∙ same) in
    grind (arith, list_any_at)

-- a module that nothing refuses makes a library with the others
pub add_keeps : (ms : List ModuleParts) (new : ModuleParts) → IsLibrary ms → add_refusal ms new ≡ None
    → IsLibrary (ms ++ new ∷ [])
add_keeps ms new h none =
    let free : (holds ms new.name ≡ false) × (nat_le 255 (length ms) ≡ false) × (clash ms new ≡ None) = grind arith in
    grind (
      arith,
      common_steps,
      all_pairs_push NamesDiffer ms new h.names
          (λ k d lt e. cc (list_any_at (is_named new.name) ms k d lt (same_bytes _ _ e), free.0)),
      all_pairs_push ShareNoPublic ms new h.publics (apart ms new free.2),
    )

pub delete_keeps : (ms : List ModuleParts) (i : ℕ) → i < length ms → IsLibrary ms → IsLibrary (remove ms i)
delete_keeps ms i lt h = grind (
  arith,
  common_steps,
  all_pairs_remove NamesDiffer ms i lt h.names,
  all_pairs_remove ShareNoPublic ms i lt h.publics,
)

-- another module in the place of one, which has another name than each other one and shares no public with it
set_keeps : (ms : List ModuleParts) (i : ℕ) (new : ModuleParts) → i < length ms → IsLibrary ms
    → ((k : ℕ) (d : ModuleParts) → k < length ms → k ≢ i
    → NamesDiffer (get_or ms k d) new × ShareNoPublic (get_or ms k d) new)
    → IsLibrary (slice_set ms i new)
set_keeps ms i new within h other = record {
  few = omega (arith, length-set ms i new, h.few);
  names = pairs_set NamesDiffer differ_back ms i new within h.names (λ k d lt ne. (other k d lt ne).0);
  publics = pairs_set ShareNoPublic apart_back ms i new within h.publics (λ k d lt ne. (other k d lt ne).1);
}

-- each other element is in the list without one
others_left : {X : Type 0} (P : X → Type 0) (xs : List X) (i : ℕ) → i < length xs → All P (remove xs i)
    → (k : ℕ) (d : X) → k < length xs → k ≢ i → P (get_or xs k d)
others_left P [] i within all k d lt ne = absurd (omega (arith, lt))
others_left P (x ∷ xs) zero within all zero d lt ne = absurd (ne refl)
others_left P (x ∷ xs) zero within all (suc k) d lt ne = all k d (omega (arith, lt))
others_left P (x ∷ xs) (suc i) within all zero d lt ne = all 0 d (omega arith)
others_left P (x ∷ xs) (suc i) within all (suc k) d lt ne = others_left P xs i (omega (arith, within))
    (λ j e low. all (suc j) e (omega (arith, low))) k d (omega (arith, lt)) (omega (arith, ne))

pub replace_keeps : (ms : List ModuleParts) (i : ℕ) (new : ModuleParts) → IsLibrary ms
    → position (is_named new.name) ms ≡ Some i → clash (remove ms i) new ≡ None
    → IsLibrary (slice_set ms i new)
replace_keeps ms i new h at free =
    let alone = named_alone new.name ms i h at in
    set_keeps ms i new alone.within h (λ k d lt ne. (
      λ e. cc (alone.others k d lt ne, same_bytes _ _ e),
      others_left (λ m. ShareNoPublic m new) ms i alone.within (apart (remove ms i) new free) k d lt ne,
    ))

-- the items before an index and those after it are the list without its item
pub around : (ms : List ModuleParts) (i : ℕ) → take i ms ++ take (length ms - (i + 1)) (drop (i + 1) ms) ≡ remove ms i
around ms i = rw (take_all (length ms - (i + 1)) (drop (i + 1) ms) (grind (arith, length-drop)), add-one) refl

-- a library stays one where a module of it is raised
pub raise_keeps : (ms : List ModuleParts) (i : ℕ) (d : ModuleParts) → i < length ms → IsLibrary ms
    → IsLibrary (slice_set ms i (raised (get_or ms i d)))
raise_keeps ms i d within h =
    let same = λ (e : ModuleParts). get_or_default ms i e d within in
    set_keeps ms i (raised (get_or ms i d)) within h (λ k e lt ne. (
      each_other NamesDiffer differ_back ms i (get_or ms i d) h.names within same k e lt ne,
      each_other ShareNoPublic apart_back ms i (get_or ms i d) h.publics within same k e lt ne,
    ))

-- What edits answer where a module of the name is at that index.
module _ (ms : List ModuleParts) (library : IsLibrary ms) (name : List ℕ) (i : ℕ)
    (at : position (is_named name) ms ≡ Some i) where
  alone : PassesAlone (is_named name) ms i
  alone = named_alone name ms i library at

  pub extract_there : (m : ModuleParts) → m ≡ get_or ms i m → extracted ms name ≡ Ok m
  extract_there m e = cc (found_alone (is_named name) ms i m alone, e)

  pub delete_there : (m : ModuleParts) → m ≡ get_or ms i m → deleted ms name ≡ Ok (m, remove ms i)
  delete_there m e = cc (extract_there m e, removed_alone (is_named name) ms i alone)

  pub raise_there : (d : ModuleParts) → raised_in ms name ≡ Ok (slice_set ms i (raised (get_or ms i d)))
  raise_there d = cc (found_alone (is_named name) ms i d alone, changed_alone (is_named name) raised ms i d alone)

module _ (ms : List ModuleParts) (library : IsLibrary ms) (new : ModuleParts) (i : ℕ)
    (at : position (is_named new.name) ms ≡ Some i) where
  pub replace_there : replaced ms new ≡ value_unless (clash (others_than new.name ms) new) (with_replaced new ms)
  replace_there = cc (found_alone (is_named new.name) ms i new (alone ms library new.name i at))

  -- replacing the module of a name, by its index
  pub put_there : value_unless (clash (others_than new.name ms) new) (with_replaced new ms)
      ≡ value_unless (clash (remove ms i) new) (slice_set ms i new)
  put_there = cc (
    removed_alone (is_named new.name) ms i (alone ms library new.name i at),
    changed_alone (is_named new.name) (λ m. new) ms i new (alone ms library new.name i at),
  )

-- Modules that are added one by one.
pub none_is_library : IsLibrary []
none_is_library = grind arith

-- the next module, where nothing refuses it
module _ (ms : List ModuleParts) (i : ℕ) (d : ModuleParts) (lt : i < length ms)
    (free : add_refusal (take i ms) (get_or ms i d) ≡ None) where
  pub library_more : IsLibrary (take i ms) → IsLibrary (take (i + 1) ms)
  library_more h = rw (take_more ms i d lt) (add_keeps (take i ms) (get_or ms i d) h free)

  pub each_more : added_each (take (i + 1) ms) (drop (i + 1) ms) ≡ added_each (take i ms) (drop i ms)
  each_more = rw (take_more ms i d lt, drop_more ms i d lt) (cc)

-- edits, and then one more
pub edits_more : (ms : List ModuleParts) (edits : List Edit) (edit : Edit) → after_edits ms (edits ++ edit ∷ [])
    ≡ after_edit (after_edits ms edits) edit
edits_more ms [] edit = refl
edits_more ms (first ∷ edits) edit = edits_more (after_edit ms first) edits edit

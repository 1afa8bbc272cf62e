-- Looking up what a module has in the list of all.
-- The items of all modules in one list.
use Rattle.m51_resolve.proofs
use proofs.Common.{◌≡◌, ℕ, zero, suc, ◌+◌, ◌≤◌, List, [], ◌∷◌, ◌++◌, length, take, drop, ap, ◌∙◌, append_assoc}
use proofs.Common.{length-append, zero-add, arith, Some, flat_map, slice_get, append-nil, ModuleParts, Segment}
use proofs.Common.{part_after, parts_after, inl, inr, ◌*◌, ◌<◌, get_or, take_more, AreStarts}
use Rattle.std.proofs.Common.{add_assoc}
use Rattle.std.specs.Prelude.{IsSome, option_and_then, slice_index}
use Rattle.std.proofs.lemmas.List.{take-append-le, get_or_default}
use Rattle.std.proofs.Math.Seq.{take-append-add, get_or-append_seam, take-length}
use Rattle.m51_module.specs.Validity.{numbered, IsValid}
use Rattle.std.proofs.lemmas.List.Concat.{flat_map-append}
use Rattle.std.proofs.Math.ListN.{get_or-append}
use Rattle.m51_cells.specs.declared.limits.TheConstants.{MOST_MODULE_SEGMENTS}
use Rattle.m51_cells.proofs.Small.{below_or_last}

-- the module of that number has an item of that number, from 1
pub record IsThere {A : Type 0} (items : ModuleParts → List A) (modules : List ModuleParts) (m s : ℕ) : Type 0 where
  pub holder : ModuleParts
  pub is : slice_get modules m ≡ Some holder
  pub index : ℕ
  pub number : s ≡ suc index
  pub item : A
  pub at : slice_get (items holder) index ≡ Some item

module _ {A : Type 0} (items : ModuleParts → List A) (modules : List ModuleParts) (m : ℕ) where
  pub there : (s : ℕ)
      → IsSome (option_and_then (λ (holder : ModuleParts). numbered (items holder) s) (slice_get modules m))
      → IsThere items modules m s
  there s h = grind arith

  -- and the other way round
  pub found : (s : ℕ) (t : IsThere items modules m s)
      → option_and_then (λ (holder : ModuleParts). numbered (items holder) s) (slice_get modules m) ≡ Some t.item
  found s t =
      ap (option_and_then (λ (holder : ModuleParts). numbered (items holder) s)) t.is
      ∙ ap (numbered (items t.holder)) t.number ∙ t.at

pub get-append : {A : Type 0} (xs ys : List A) (n : ℕ) → slice_get (xs ++ ys) (length xs + n) ≡ slice_get ys n
get-append [] ys n = grind arith
get-append (x ∷ xs) ys n =
    let next : suc (length xs) + n ≡ suc (length xs + n) = omega arith in rw next (get-append xs ys n)

pub get_left : {A : Type 0} (xs ys : List A) (n : ℕ) (x : A) → slice_get xs n ≡ Some x → slice_get (xs ++ ys) n ≡ Some x
get_left [] ys n x h = cc
get_left (y ∷ xs) ys zero x h = h
get_left (y ∷ xs) ys (suc n) x h = get_left xs ys n x h

module _ {A : Type 0} (items : ModuleParts → List A) where
  -- an item of a module comes after those of the modules before
  pub get_flat : (modules : List ModuleParts) (m j : ℕ) (holder : ModuleParts) (item : A) → slice_get modules m
      ≡ Some holder → slice_get (items holder) j ≡ Some item
      → slice_get (flat_map items modules) (length (flat_map items (take m modules)) + j) ≡ Some item
  get_flat [] m j holder item is at = cc
  get_flat (x ∷ modules) zero j holder item is at =
      let same : x ≡ holder = cc in
      grind arith
      ∙ get_left (items x) (flat_map items modules) j item (cc)
  get_flat (x ∷ modules) (suc m) j holder item is at =
      grind (arith, flat_map, length-append, get-append, get_flat modules m j holder item is at)

  -- and these are the items before it
  pub take_flat : (modules : List ModuleParts) (m j : ℕ) (holder : ModuleParts) → slice_get modules m ≡ Some holder
      → j ≤ length (items holder)
      → take (length (flat_map items (take m modules)) + j) (flat_map items modules)
      ≡ flat_map items (take m modules) ++ take j (items holder)
  take_flat [] m j holder is inside = cc
  take_flat (x ∷ modules) zero j holder is inside =
      let same : x ≡ holder = cc in
      let inside' = rw (← same) at inside in
      rw (zero-add, take-append-le j (items x) (flat_map items modules) inside', same)
  take_flat (x ∷ modules) (suc m) j holder is inside =
      rw (length-append, add_assoc, take-append-add, take_flat modules m j holder is inside, append_assoc)

-- the part in the table is that of the segment there
pub get_part : (before segments : List Segment) (n : ℕ) (s : Segment) → slice_get segments n ≡ Some s
    → slice_get (parts_after before segments) n ≡ Some (part_after (before ++ take n segments) s)
get_part before [] n s is = cc
get_part before (x ∷ segments) zero s is = cc (append-nil before)
get_part before (x ∷ segments) (suc n) s is = grind (arith, get_part (before ++ x ∷ []) segments n s is, append_assoc)

-- a list around one of its items
pub around : {A : Type 0} (xs : List A) (n : ℕ) (x : A) → slice_get xs n ≡ Some x → xs
    ≡ take n xs ++ x ∷ drop (suc n) xs
around [] n x is = cc
around (y ∷ xs) zero x is = cc
around (y ∷ xs) (suc n) x is = cc (around xs n x is)

-- the items of the first `count` modules, and where those of each begin
pub record AreFlat {A : Type 0} (items : ModuleParts → List A) (modules : List ModuleParts) (count : ℕ) (all : List A)
    (starts : List ℕ) : Type 0 where
  pub few : count ≤ length modules
  pub flat : all ≡ flat_map items (take count modules)
  pub len : length starts ≡ count
  pub each : (m : ℕ) → m < count → slice_index starts m ≡ length (flat_map items (take m modules))

pub record AreSegmentsOf (modules : List ModuleParts) (count : ℕ) (all : List Segment) (starts : List ℕ) : Type 0 where
  pub are : AreFlat (λ m. m.segments) modules count all starts
  pub most : length all ≤ MOST_MODULE_SEGMENTS * count
  pub valid : (m : ℕ) → m < count → (d : ModuleParts) → IsValid (get_or modules m d)

pub flat_start : {A : Type 0} (items : ModuleParts → List A) (modules : List ModuleParts)
    → AreFlat items modules 0 [] []
flat_start items modules = grind arith

-- the items of one more module
pub flat_more : {A : Type 0} {items : ModuleParts → List A} {modules : List ModuleParts} {count : ℕ} {all : List A}
    {starts : List ℕ} {m : ModuleParts} {start : ℕ}
    → AreFlat items modules count all starts → count < length modules → m ≡ get_or modules count m → start ≡ length all
    → AreFlat items modules (count + 1) (all ++ items m) (starts ++ start ∷ [])
flat_more {modules = modules} {count = count} {m = m} h below is start_is =
    let more : take (count + 1) modules ≡ take count modules ++ m ∷ [] = rw (take_more modules count m below, ← is) in
    grind (arith, flat_map-append, append-nil, length-append, get_or-append, get_or-append_seam)

-- one more valid module
pub valid_more : (modules : List ModuleParts) (count : ℕ) (m : ModuleParts)
    → ((k : ℕ) → k < count → (d : ModuleParts) → IsValid (get_or modules k d)) → count < length modules
    → m ≡ get_or modules count m → IsValid m → (k : ℕ) → k < count + 1 → (d : ModuleParts)
    → IsValid (get_or modules k d)
valid_more modules count m valid below is own k inside d =
    elim (below_or_last k count inside) [
      | inl less ↦ valid k less d
      | inr last ↦ rw (last, ← get_or_default modules count m d below, ← is) own
    ]

-- all of them
pub flat_all : {A : Type 0} {items : ModuleParts → List A} {modules : List ModuleParts} {count : ℕ} {all : List A}
    {starts : List ℕ} → AreFlat items modules count all starts
    → length modules ≤ count → (all ≡ flat_map items modules) × AreStarts items modules starts
flat_all {modules = modules} {count = count} h past =
    let whole : count ≡ length modules = omega (arith, h.few, past) in (grind (arith, take-length))

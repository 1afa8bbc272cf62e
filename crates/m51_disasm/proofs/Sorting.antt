-- Units in the order of their bases: what a stable sort gives is those of each base in turn.
use Rattle.std.proofs.Common.{◌≡◌, ℕ, zero, suc, ◌<◌, ◌≤◌, Bool, true, false, List, [], ◌∷◌, ◌++◌, get_or, refl, sym}
use Rattle.std.proofs.Common.{ap, ◌∙◌, arith, ⊎_elim}
use Rattle.std.specs.Prelude.{◌==◌, ◌&&◌, not, nat_lt}
use Rattle.std.specs.List.{All, filter}
use Rattle.std.specs.List.Sorted.{IsNonDecreasingBy, IsSortedByKey, IsStableByKey, ties}
use Rattle.std.specs.Ordering.{nat_cmp, is_lt}
use Rattle.std.specs.Prelude.{Result, Ok, Err, OnOk}
use Rattle.std.specs.Fn.{Called, ComputesKey}
use Rattle.std.proofs.lemmas.Fn.{always_returns_same}
use denote.Ref.{Bor}
use denote.Param.Members.{Mut}
use Rattle.std.proofs.lemmas.Bool.{cases_order}
use Rattle.std.proofs.lemmas.Bool.Decides.{nat_tests}
use Rattle.std.proofs.lemmas.List.Sorted.{IsNonDecreasingBy-from_sort}
use Rattle.m51_disasm.specs.declared.part.CodeRange.{CodeRange}
use Rattle.m51_disasm.specs.Parts.{parts_below}

abbrev base_of : CodeRange → ℕ
base_of part = part.base

abbrev begins_at : ℕ → CodeRange → Bool
begins_at address part = part.base == address

abbrev begins_below : ℕ → CodeRange → Bool
begins_below address part = nat_lt part.base address

-- what fails everywhere is filtered out, and what passes everywhere stays
none_pass : (p : CodeRange → Bool) (xs : List CodeRange) → All (λ x. p x ≡ false) xs → filter p xs ≡ []
none_pass p [] h = refl
none_pass p (x ∷ xs) h =
    rw (h 0 x (omega arith)) (none_pass p xs (λ k d below. h (suc k) d (omega (arith, below))))

all_pass : (p : CodeRange → Bool) (xs : List CodeRange) → All (λ x. p x ≡ true) xs → filter p xs ≡ xs
all_pass p [] h = refl
all_pass p (x ∷ xs) h =
    rw (h 0 x (omega arith)) (ap (λ l. x ∷ l) (all_pass p xs (λ k d below. h (suc k) d (omega (arith, below)))))

-- in a list that does not fall, those after the first
rest_rises : (x : CodeRange) (xs : List CodeRange) → IsNonDecreasingBy base_of (x ∷ xs) → IsNonDecreasingBy base_of xs
rest_rises x xs h i j d le below = h (suc i) (suc j) d (omega (arith, le)) (omega (arith, below))

none_below : (address : ℕ) (x : CodeRange) (xs : List CodeRange) → IsNonDecreasingBy base_of (x ∷ xs) → address ≤ x.base
    → filter (begins_below address) xs ≡ []
none_below address x xs h le =
    none_pass (begins_below address) xs
    (λ k d below. let above : x.base ≤ base_of (get_or xs k d) = h 0 (suc k) d (omega arith) (omega (arith, below)) in
    grind (arith, nat_tests))

-- the test of the next address passes what that of this one passes, and what begins here
one_more : (address : ℕ) (xs : List CodeRange) → IsNonDecreasingBy base_of xs
    → filter (begins_below (suc address)) xs ≡ filter (begins_below address) xs ++ filter (begins_at address) xs
one_more address [] h = refl
one_more address (x ∷ xs) h =
    let more = one_more address xs (rest_rises x xs h) in
    ⊎_elim
    (λ (e : x.base ≡ address).
    let a : nat_lt x.base (suc address) ≡ true = grind (arith, nat_tests) in
    let b : nat_lt x.base address ≡ false = grind (arith, nat_tests) in
    let c : (x.base == address) ≡ true = grind (arith, nat_tests) in
    let none : filter (begins_below address) xs ≡ [] = none_below address x xs h (omega (arith, e)) in
    rw (a, b, c, none) (ap (λ l. x ∷ l) (more ∙ ap (λ l. l ++ filter (begins_at address) xs) none)))
    (⊎_elim
    (λ (e : x.base < address).
    let a : nat_lt x.base (suc address) ≡ true = grind (arith, nat_tests) in
    let b : nat_lt x.base address ≡ true = grind (arith, nat_tests) in
    let c : (x.base == address) ≡ false = grind (arith, nat_tests) in
    rw (a, b, c) (ap (λ l. x ∷ l) more))
    (λ (e : address < x.base).
    let a : nat_lt x.base (suc address) ≡ false = grind (arith, nat_tests) in
    let b : nat_lt x.base address ≡ false = grind (arith, nat_tests) in
    let c : (x.base == address) ≡ false = grind (arith, nat_tests) in
    rw (a, b, c) more))
    (cases_order x.base address)

-- those below an address, of a list that does not fall
below_filtered : (xs : List CodeRange) → IsNonDecreasingBy base_of xs → (address : ℕ)
    → parts_below xs address ≡ filter (begins_below address) xs
unfolding parts_below
below_filtered xs h zero = sym (none_pass (begins_below 0) xs (λ k d below. grind (arith, nat_tests)))
below_filtered xs h (suc address) =
    ap (λ l. l ++ filter (begins_at address) xs) (below_filtered xs h address) ∙ sym (one_more address xs h)

-- only the units of each base count
same_below : (xs ys : List CodeRange) → ((address : ℕ) → filter (begins_at address) xs ≡ filter (begins_at address) ys)
    → (address : ℕ) → parts_below xs address ≡ parts_below ys address
unfolding parts_below
same_below xs ys h zero = refl
same_below xs ys h (suc address) =
    ap (λ l. l ++ filter (begins_at address) xs) (same_below xs ys h address)
    ∙ ap (λ l. parts_below ys address ++ l) (h address)

-- a unit at an address ties with those that begin there
tie : (address base : ℕ)
    → (not (is_lt (nat_cmp address base)) && not (is_lt (nat_cmp base address))) ≡ (base == address)
tie address base = grind (arith, nat_tests)

abbrev unit_there : ℕ → CodeRange
unit_there address = record { base = address; size = 0 }

-- what a stable sort by the bases gives
pub sorted_parts : (xs ys : List CodeRange) → IsSortedByKey base_of nat_cmp ys → IsStableByKey base_of nat_cmp xs ys
    → All (λ y. y.base < 65536) ys → ys ≡ parts_below xs 0x10000
sorted_parts xs ys sorted stable below =
    let rises = IsNonDecreasingBy-from_sort base_of ys sorted in
    let test : (address : ℕ) → (λ y. ties (λ x y. is_lt (nat_cmp (base_of x) (base_of y))) (unit_there address) y)
    ≡ begins_at address = λ address i y. tie address y.base i in
    let same : (address : ℕ) → filter (begins_at address) xs ≡ filter (begins_at address) ys = λ address.
    sym (ap (λ p. filter p xs) (test address)) ∙ sym (stable (unit_there address))
    ∙ ap (λ p. filter p ys) (test address) in
    sym (same_below xs ys same 0x10000 ∙ below_filtered ys rises 0x10000
    ∙ all_pass (begins_below 0x10000) ys (λ k d h. let less : base_of (get_or ys k d) < 65536 = below k d h in
    grind (arith, nat_tests)))

-- the same of a sort that may run out of memory, by a closure that gives the base
pub after_sort : {F T E : Type 0} {g : Mut F (Bor CodeRange × Unit {0}) ℕ} {f : F} (r : Result T E)
    (xs ys : List CodeRange)
    → OnOk r ((key : CodeRange → ℕ) → ComputesKey g key f → IsSortedByKey key nat_cmp ys)
    → ((key : CodeRange → ℕ) → ComputesKey g key f → IsStableByKey key nat_cmp xs ys)
    → ((a : Bor CodeRange × Unit {0}) (r : ℕ) (f' : F) → Called g f a r f' → (r ≡ base_of a.0.now) × (f' ≡ f))
    → All (λ y. y.base < 65536) ys → OnOk r (ys ≡ parts_below xs 0x10000)
after_sort {g = g} {f = f} (Ok u) xs ys sorted stable called below =
    let computes : ComputesKey g base_of f = always_returns_same g (λ a r. r ≡ base_of a.0.now) f called in
    sorted_parts xs ys (sorted base_of computes) (stable base_of computes) below
after_sort (Err e) xs ys sorted stable called below = tt

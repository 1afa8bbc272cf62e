-- What holds of each element of a list and of each two, and sums over lists.
use Rattle.std.proofs.Common.{◌≡◌, ◌⊎◌, inl, inr, ℕ, zero, suc, ◌+◌, ◌<◌, ◌≤◌, true, Bool, nat_eq, List, [], ◌∷◌, ◌++◌}
use Rattle.std.proofs.Common.{filter, flat_map, length, map, Some, refl, sym, ap, ◌∙◌, arith}
use Rattle.std.proofs.lemmas.Bool.{cases_Bool, cases_eq, eq-eqb, or_right}
use Rattle.std.proofs.lemmas.Bool.Decides.{nat_tests}
use Rattle.std.proofs.lemmas.List.Recursion.{is_sum_by}
use Rattle.std.proofs.lemmas.List.Sorted.{sum_by-IsPermutation}
use Rattle.std.specs.List.{All, AllPairs, Contains, list_any, range_with_len, sum_by}
use Rattle.std.specs.List.Sorted.{IsPermutation}
use Rattle.std.specs.Prelude.{slice_get}

-- an element of a list
abbrev pub In : {A : Type 0} → A → List A → Type 0
In x [] = ⊥
In x (y ∷ ys) = (y ≡ x) ⊎ In x ys

-- what holds of each element, and of each two, the earlier one first
abbrev pub Every : {A : Type 0} → (A → Type 0) → List A → Type 0
Every P [] = Unit {0}
Every P (x ∷ xs) = P x × Every P xs

abbrev pub Pairs : {A : Type 0} → (A → A → Type 0) → List A → Type 0
Pairs R [] = Unit {0}
Pairs R (x ∷ xs) = Every (R x) xs × Pairs R xs

-- the sum of what a function gives at each
abbrev pub total : {A : Type 0} → (A → ℕ) → List A → ℕ
total f [] = 0
total f (x ∷ xs) = f x + total f xs

pub no_element : {A : Type 0} (x : A) → In x [] → ⊥
no_element x h = h

pub in_first : {A : Type 0} (x : A) (xs : List A) → In x (x ∷ xs)
in_first x xs = inl refl

pub in_later : {A : Type 0} (x y : A) (ys : List A) → In x ys → In x (y ∷ ys)
in_later x y ys h = inr h

pub in_cons : {A : Type 0} (x y : A) (ys : List A) → In x (y ∷ ys) → (y ≡ x) ⊎ In x ys
in_cons x y ys h = h

pub in_cases : {A : Type 0} (xs ys : List A) (x : A) → In x (xs ++ ys) → In x xs ⊎ In x ys
in_cases [] ys x h = inr h
in_cases (y ∷ xs) ys x (inl e) = inl (inl e)
in_cases (y ∷ xs) ys x (inr h) = elim (in_cases xs ys x h) [ inl l ↦ inl (inr l) | inr r ↦ inr r ]

pub in_left : {A : Type 0} (xs ys : List A) (x : A) → In x xs → In x (xs ++ ys)
in_left [] ys x h = absurd h
in_left (y ∷ xs) ys x (inl e) = inl e
in_left (y ∷ xs) ys x (inr h) = inr (in_left xs ys x h)

pub in_right : {A : Type 0} (xs ys : List A) (x : A) → In x ys → In x (xs ++ ys)
in_right [] ys x h = h
in_right (y ∷ xs) ys x h = inr (in_right xs ys x h)

pub in_contains : {A : Type 0} (xs : List A) (x : A) → Contains xs x → In x xs
in_contains [] x h = absurd (omega (arith, h.1))
in_contains (y ∷ xs) x (zero, below, e) = inl e
in_contains (y ∷ xs) x (suc k, below, e) = inr (in_contains xs x (k, omega (arith, below), e))

pub contains_in : {A : Type 0} (xs : List A) (x : A) → In x xs → Contains xs x
contains_in [] x h = absurd h
contains_in (y ∷ xs) x (inl e) = (0, omega arith, e)
contains_in (y ∷ xs) x (inr h) = let c = contains_in xs x h in (suc c.0, omega (arith, c.1), c.2)

pub got_in : {A : Type 0} (xs : List A) (k : ℕ) (x : A) → slice_get xs k ≡ Some x → In x xs
got_in [] k x h = absurd (cc h)
got_in (y ∷ xs) zero x h = inl (cc h)
got_in (y ∷ xs) (suc k) x h = inr (got_in xs k x h)

pub in_map : {A B : Type 0} (f : A → B) (xs : List A) (y : B) → In y (map f xs) → (x : A) × In x xs × (f x ≡ y)
in_map f [] y h = absurd h
in_map f (x ∷ xs) y (inl e) = (x, inl refl, e)
in_map f (x ∷ xs) y (inr h) = let of = in_map f xs y h in (of.0, inr of.1, of.2)

-- lists of one element after another
pub in_flat : {A B : Type 0} (f : A → List B) (xs : List A) (y : B) → In y (flat_map f xs)
    → (x : A) × In x xs × In y (f x)
in_flat f [] y h = absurd h
in_flat f (x ∷ xs) y h = elim (in_cases (f x) (flat_map f xs) y h) [
  | inl l ↦ (x, inl refl, l)
  | inr r ↦ let c = in_flat f xs y r in (c.0, inr c.1, c.2)
]

pub flat_in : {A B : Type 0} (f : A → List B) (xs : List A) (x : A) (y : B) → In x xs → In y (f x)
    → In y (flat_map f xs)
flat_in f [] x y h k = absurd h
flat_in f (z ∷ xs) x y (inl e) k = rw e (in_left (f x) (flat_map f xs) y k)
flat_in f (z ∷ xs) x y (inr h) k = in_right (f z) (flat_map f xs) y (flat_in f xs x y h k)

pub in_range : (n from i : ℕ) → In i (range_with_len from n) → (from ≤ i) × (i < from + n)
in_range zero from i h = absurd h
in_range (suc n) from i (inl e) = omega arith
in_range (suc n) from i (inr h) = omega (arith, in_range n (from + 1) i h)

pub range_in : (n from i : ℕ) → from ≤ i → i < from + n → In i (range_with_len from n)
range_in zero from i h k = absurd (omega arith)
range_in (suc n) from i h k = elim (cases_eq from i)
    [ inl e ↦ inl e | inr ne ↦ inr (range_in n (from + 1) i (omega arith) (omega arith)) ]

-- the index of an element
pub record At {A : Type 0} (xs : List A) (x : A) : Type 0 where
  pub index : ℕ
  pub below : index < length xs
  pub got : slice_get xs index ≡ Some x

pub at_in : {A : Type 0} (xs : List A) (x : A) → In x xs → At xs x
at_in [] x h = absurd h
at_in (y ∷ xs) x (inl e) = record { index = 0; below = omega arith; got = λ i. Some (e i) }
at_in (y ∷ xs) x (inr h) = let r = at_in xs x h in
    record { index = suc r.index; below = omega arith; got = r.got }

pub in_filter : {A : Type 0} (test : A → Bool) (xs : List A) (x : A) → In x (filter test xs) → In x xs
    × (test x ≡ true)
in_filter test [] x h = absurd h
in_filter test (y ∷ xs) x h = elim (cases_Bool (test y)) [
  | inl is ↦ elim (in_cases (y ∷ []) (filter test xs) x (rw is at h)) [
    | inl first ↦ elim first [ inl e ↦ (inl e, ap test (sym e) ∙ is) | inr bad ↦ absurd bad ]
    | inr behind ↦ let rest = in_filter test xs x behind in (inr rest.0, rest.1)
  ]
  | inr none ↦ let rest = in_filter test xs x (rw none at h) in (inr rest.0, rest.1)
]

pub map_at : {A B : Type 0} (f : A → B) (xs : List A) (k : ℕ) (y : B) → slice_get (map f xs) k ≡ Some y
    → (x : A) × (slice_get xs k ≡ Some x) × (f x ≡ y)
map_at f [] k y h = absurd (cc h)
map_at f (x ∷ xs) zero y h = (x, refl, cc h)
map_at f (x ∷ xs) (suc k) y h = map_at f xs k y h

pub map_got : {A B : Type 0} (f : A → B) (xs : List A) (k : ℕ) (x : A) → slice_get xs k ≡ Some x
    → slice_get (map f xs) k ≡ Some (f x)
map_got f [] k x h = absurd (cc h)
map_got f (z ∷ xs) zero x h = let e : z ≡ x = cc h in rw e
map_got f (z ∷ xs) (suc k) x h = map_got f xs k x h

pub map_in : {A B : Type 0} (f : A → B) (xs : List A) (x : A) → In x xs → In (f x) (map f xs)
map_in f [] x h = absurd h
map_in f (z ∷ xs) x (inl e) = inl (ap f e)
map_in f (z ∷ xs) x (inr h) = inr (map_in f xs x h)

-- numbers by a test
pub any_in : (o : ℕ) (us : List ℕ) → list_any (λ u. nat_eq u o) us ≡ true → In o us
any_in o [] h = absurd (cc h)
any_in o (u ∷ us) h = elim (cases_eq u o) [ inl e ↦ inl e | inr ne ↦ inr (any_in o us (grind (arith, nat_tests))) ]

pub in_any : (o : ℕ) (us : List ℕ) → In o us → list_any (λ u. nat_eq u o) us ≡ true
in_any o [] h = absurd h
in_any o (u ∷ us) (inl e) = rw (eq-eqb u o e)
in_any o (u ∷ us) (inr h) = rw (in_any o us h) (or_right (nat_eq u o) true refl)

module _ {A : Type 0} (P : A → Type 0) where
  pub every_append : (xs ys : List A) → Every P xs → Every P ys → Every P (xs ++ ys)
  every_append [] ys h k = k
  every_append (x ∷ xs) ys h k = (h.0, every_append xs ys h.1 k)

  pub every_right : (xs ys : List A) → Every P (xs ++ ys) → Every P ys
  every_right [] ys h = h
  every_right (x ∷ xs) ys h = every_right xs ys h.1

  pub every_in : (xs : List A) (x : A) → Every P xs → In x xs → P x
  every_in [] x h i = absurd i
  every_in (y ∷ xs) x h (inl e) = rw e at h.0
  every_in (y ∷ xs) x h (inr i) = every_in xs x h.1 i

  pub every_all : (xs : List A) → Every P xs → All P xs
  every_all [] h k d below = absurd (omega (arith, below))
  every_all (x ∷ xs) h zero d below = h.0
  every_all (x ∷ xs) h (suc k) d below = every_all xs h.1 k d (omega (arith, below))

  pub all_every : (xs : List A) → All P xs → Every P xs
  all_every [] h = tt
  all_every (x ∷ xs) h = (h 0 x (omega arith), all_every xs (λ k d below. h (suc k) d (omega (arith, below))))

  -- what holds by index
  pub every_got : (xs : List A) → ((k : ℕ) (x : A) → slice_get xs k ≡ Some x → P x) → Every P xs
  every_got [] h = tt
  every_got (x ∷ xs) h = (h 0 x refl, every_got xs (λ k. h (suc k)))

pub every_both : {A : Type 0} (P Q R : A → Type 0) (xs : List A) → ((x : A) → P x → Q x → R x) → Every P xs
    → Every Q xs → Every R xs
every_both P Q R [] f h k = tt
every_both P Q R (x ∷ xs) f h k = (f x h.0 k.0, every_both P Q R xs f h.1 k.1)

pub every_weaker : {A : Type 0} (P Q : A → Type 0) (xs : List A) → ((x : A) → P x → Q x) → Every P xs → Every Q xs
every_weaker P Q [] f h = tt
every_weaker P Q (x ∷ xs) f h = (f x h.0, every_weaker P Q xs f h.1)

pub pairs_weaker : {A : Type 0} (R S : A → A → Type 0) (xs : List A) → ((x y : A) → R x y → S x y) → Pairs R xs
    → Pairs S xs
pairs_weaker R S [] f h = tt
pairs_weaker R S (x ∷ xs) f h = (every_weaker (R x) (S x) xs (f x) h.0, pairs_weaker R S xs f h.1)

module _ {A : Type 0} (R : A → A → Type 0) where
  pub pairs_got : (xs : List A)
      → ((i j : ℕ) (x y : A) → i < j → slice_get xs i ≡ Some x → slice_get xs j ≡ Some y → R x y) → Pairs R xs
  pairs_got [] h = tt
  pairs_got (x ∷ xs) h = (
    every_got (R x) xs (λ k y at. h 0 (suc k) x y (omega arith) refl at),
    pairs_got xs (λ i j y z less. h (suc i) (suc j) y z (omega (arith, less))),
  )

  pub all_pairs : (xs : List A) → AllPairs R xs → Pairs R xs
  all_pairs [] h = tt
  all_pairs (x ∷ xs) h = (
    all_every (R x) xs (λ k d below. h 0 (suc k) d (omega arith) (omega (arith, below))),
    all_pairs xs (λ i j d less below. h (suc i) (suc j) d (omega (arith, less)) (omega (arith, below))),
  )

pub every_of : {A : Type 0} (P : A → Type 0) (xs : List A) → ((x : A) → In x xs → P x) → Every P xs
every_of P [] h = tt
every_of P (x ∷ xs) h = (h x (inl refl), every_of P xs (λ y i. h y (inr i)))

pub pairs_push : {A : Type 0} (R : A → A → Type 0) (xs : List A) (y : A) → Pairs R xs → Every (λ x. R x y) xs
    → Pairs R (xs ++ y ∷ [])
pairs_push R [] y h k = (tt, tt)
pairs_push R (x ∷ xs) y h k = (every_append (R x) xs (y ∷ []) h.0 (k.0, tt), pairs_push R xs y h.1 k.1)

pub pairs_append : {A : Type 0} (R : A → A → Type 0) (xs ys : List A) → Pairs R xs → Pairs R ys
    → ((x y : A) → In x xs → In y ys → R x y) → Pairs R (xs ++ ys)
pairs_append R [] ys h k cross = k
pairs_append R (x ∷ xs) ys h k cross = (
  every_append (R x) xs ys h.0 (every_of (R x) ys (λ y i. cross x y (inl refl) i)),
  pairs_append R xs ys h.1 k (λ u y i j. cross u y (inr i) j),
)

-- lists of one element after another: each in order, and each element of an earlier one before each of a later one
pub pairs_flat : {A B : Type 0} (f : A → List B) (R : B → B → Type 0) (Q : A → A → Type 0) (xs : List A) → Pairs Q xs
    → ((x : A) → In x xs → Pairs R (f x))
    → ((x y : A) → In x xs → In y xs → Q x y → (u v : B) → In u (f x) → In v (f y) → R u v) → Pairs R (flat_map f xs)
pairs_flat f R Q [] h each cross = tt
pairs_flat f R Q (x ∷ xs) h each cross = pairs_append R (f x) (flat_map f xs) (each x (inl refl))
    (pairs_flat f R Q xs h.1 (λ y i. each y (inr i)) (λ y z i j. cross y z (inr i) (inr j)))
    (λ u v i j. let c = in_flat f xs v j in
    cross x c.0 (inl refl) (inr c.1) (every_in (Q x) xs c.0 h.0 c.1) u v i c.2)

pub pairs_range : (n from : ℕ) → Pairs (λ i j. i < j) (range_with_len from n)
pairs_range zero from = tt
pairs_range (suc n) from = (
  every_of (λ j. from < j) (range_with_len (from + 1) n) (λ j i. omega (arith, in_range n (from + 1) j i)),
  pairs_range n (from + 1),
)

pub pairs_both : {A : Type 0} (R S T : A → A → Type 0) (xs : List A) → ((x y : A) → R x y → S x y → T x y)
    → Pairs R xs → Pairs S xs → Pairs T xs
pairs_both R S T [] f h k = tt
pairs_both R S T (x ∷ xs) f h k = (every_both (R x) (S x) (T x) xs (f x) h.0 k.0, pairs_both R S T xs f h.1 k.1)

pub pairs_at : {A : Type 0} (R : A → A → Type 0) (xs : List A) (i j : ℕ) (x y : A) → Pairs R xs → i < j
    → slice_get xs i ≡ Some x → slice_get xs j ≡ Some y → R x y
pairs_at R [] i j x y h less at at' = absurd (cc at)
pairs_at R (z ∷ xs) i zero x y h less at at' = absurd (omega (arith, less))
pairs_at R (z ∷ xs) zero (suc j) x y h less at at' = let e : z ≡ x = cc at in
    rw (← e) (every_in (R z) xs y h.0 (got_in xs j y at'))
pairs_at R (z ∷ xs) (suc i) (suc j) x y h less at at' = pairs_at R xs i j x y h.1 (omega (arith, less)) at at'

pub pairs_in : {A : Type 0} (R : A → A → Type 0) (xs : List A) (x y : A) → Pairs R xs → In x xs → In y xs
    → (x ≡ y) ⊎ (R x y ⊎ R y x)
pairs_in R [] x y h i j = absurd i
pairs_in R (z ∷ xs) x y h (inl e) (inl e') = inl (sym e ∙ e')
pairs_in R (z ∷ xs) x y h (inl e) (inr j) = inr (inl (rw (← e) (every_in (R z) xs y h.0 j)))
pairs_in R (z ∷ xs) x y h (inr i) (inl e) = inr (inr (rw (← e) (every_in (R z) xs x h.0 i)))
pairs_in R (z ∷ xs) x y h (inr i) (inr j) = pairs_in R xs x y h.1 i j

pub every_map : {A B : Type 0} (f : A → B) (P : B → Type 0) (xs : List A) → Every (λ x. P (f x)) xs → Every P (map f xs)
every_map f P [] h = tt
every_map f P (x ∷ xs) h = (h.0, every_map f P xs h.1)

pub pairs_map : {A B : Type 0} (f : A → B) (R : B → B → Type 0) (xs : List A) → Pairs (λ x y. R (f x) (f y)) xs
    → Pairs R (map f xs)
pairs_map f R [] h = tt
pairs_map f R (x ∷ xs) h = (every_map f (R (f x)) xs h.0, pairs_map f R xs h.1)

pub every_filter : {A : Type 0} (P : A → Type 0) (test : A → Bool) (xs : List A) → Every P xs → Every P (filter test xs)
every_filter P test [] h = tt
every_filter P test (x ∷ xs) h = elim (cases_Bool (test x)) [
  | inl is ↦ rw is (h.0, every_filter P test xs h.1)
  | inr none ↦ rw none (every_filter P test xs h.1)
]

pub pairs_filter : {A : Type 0} (R : A → A → Type 0) (test : A → Bool) (xs : List A) → Pairs R xs
    → Pairs R (filter test xs)
pairs_filter R test [] h = tt
pairs_filter R test (x ∷ xs) h = elim (cases_Bool (test x)) [
  | inl is ↦ rw is (every_filter (R x) test xs h.0, pairs_filter R test xs h.1)
  | inr none ↦ rw none (pairs_filter R test xs h.1)
]

pub pairs_all : {A : Type 0} (R : A → A → Type 0) (xs : List A) → Pairs R xs → AllPairs R xs
pairs_all R [] h i j d less below = absurd (omega (arith, below))
pairs_all R (x ∷ xs) h i zero d less below = absurd (omega (arith, less))
pairs_all R (x ∷ xs) h zero (suc j) d less below = every_all (R x) xs h.0 j d (omega (arith, below))
pairs_all R (x ∷ xs) h (suc i) (suc j) d less below =
    pairs_all R xs h.1 i j d (omega (arith, less)) (omega (arith, below))

pub total_map : {A B : Type 0} (f : B → ℕ) (h : A → B) (xs : List A) → total f (map h xs) ≡ total (λ x. f (h x)) xs
total_map f h [] = refl
total_map f h (x ∷ xs) = omega (arith, total_map f h xs)

module _ {A : Type 0} (f : A → ℕ) where
  pub total-append : (xs ys : List A) → total f (xs ++ ys) ≡ total f xs + total f ys
  total-append [] ys = omega arith
  total-append (x ∷ xs) ys = omega (arith, total-append xs ys)

  pub total_sum : (xs : List A) → total f xs ≡ sum_by f xs
  total_sum xs = is_sum_by (total f) f refl (λ _ _. refl) xs

  pub total_moved : (xs ys : List A) → IsPermutation xs ys → total f xs ≡ total f ys
  total_moved xs ys moved = total_sum xs ∙ sym (sum_by-IsPermutation f xs ys moved) ∙ sym (total_sum ys)

  pub total_le : (g : A → ℕ) (xs : List A) → Every (λ x. f x ≤ g x) xs → total f xs ≤ total g xs
  total_le g [] h = omega arith
  total_le g (x ∷ xs) h = omega (arith, h.0, total_le g xs h.1)

  pub total_add : (g : A → ℕ) (xs : List A) → total (λ x. f x + g x) xs ≡ total f xs + total g xs
  total_add g [] = refl
  total_add g (x ∷ xs) = omega (arith, total_add g xs)

pub total_none : {A : Type 0} (f : A → ℕ) (xs : List A) → Every (λ x. f x ≡ 0) xs → total f xs ≡ 0
total_none f [] h = refl
total_none f (x ∷ xs) h = omega (arith, h.0, total_none f xs h.1)

pub total_zero : {A : Type 0} (xs : List A) → total (λ x. 0) xs ≡ 0
total_zero [] = refl
total_zero (x ∷ xs) = omega (arith, total_zero xs)

-- a sum of sums, in the other order
pub total_swap : {A B : Type 0} (f : A → B → ℕ) (us : List A) (xs : List B)
    → total (λ u. total (f u) xs) us ≡ total (λ x. total (λ u. f u x) us) xs
total_swap f [] xs = sym (total_zero xs)
total_swap f (u ∷ us) xs = omega (arith, total_swap f us xs, total_add (f u) (λ x. total (λ u. f u x) us) xs)

-- Small facts on tests, numbers and lists that std's lemmas lack.
use Rattle.std.proofs.Common.{◌≡◌, ◌⊎◌, inl, inr, ℕ, zero, suc, ◌+◌, ◌*◌, ◌<◌, Bool, true, false, ◌==◌, cond, List, []}
use Rattle.std.proofs.Common.{◌∷◌, ◌++◌, Option, Some, refl, ap, ◌∙◌, arith}
use Rattle.std.proofs.lemmas.Bool.Decides.{nat_tests}
use Rattle.std.specs.List.{All, AllPairs, Contains, range_with_len}

-- one of two ways to a value
pub either : {A P : Type 0} (b : Bool) (x y : Option A) (z : A) → cond b x y ≡ Some z → (b ≡ true → x ≡ Some z → P)
    → (b ≡ false → y ≡ Some z → P) → P
either true x y z h first second = first refl h
either false x y z h first second = second refl h

-- a number below the next one is below this one, or is it
pub below_or_last : (n count : ℕ) → n < count + 1 → (n < count) ⊎ (n ≡ count)
below_or_last n zero h = inr (omega (arith, h))
below_or_last zero (suc count) h = inl (omega arith)
below_or_last (suc n) (suc count) h =
    elim (below_or_last n count (omega (arith, h))) [
      | inl below ↦ inl (omega (arith, below))
      | inr last ↦ inr (ap suc last)
    ]

-- a number is positive exactly if it is not 0
pub positive : (n : ℕ) → (n == 0) ≡ false → 0 < n
positive n h = grind (arith, nat_tests)

pub not_zero : (n : ℕ) → 0 < n → (n == 0) ≡ false
not_zero n h = grind (arith, nat_tests)

-- a pair of these two
pub pair_is : (p : ℕ × ℕ) (a b : ℕ) → p.0 ≡ a → p.1 ≡ b → p ≡ (a, b)
pair_is p a b first second = ap (λ (x : ℕ). (x, p.1)) first ∙ ap (λ (y : ℕ). (a, y)) second

-- the first item of a list is in it
pub contains_first : {X : Type 0} (x : X) (xs : List X) → Contains (x ∷ xs) x
contains_first x xs = (0, omega arith, refl)

-- what is among the later items is in the list
pub contains_after : {X : Type 0} (y : X) (xs : List X) (x : X) → Contains xs x → Contains (y ∷ xs) x
contains_after y xs x h = (suc h.0, omega (arith, h.1), h.2)

-- what is in a list is its first item or among the later ones
pub first_or_after : {X : Type 0} (y : X) (xs : List X) (x : X) → Contains (y ∷ xs) x → (y ≡ x) ⊎ Contains xs x
first_or_after y xs x (zero, below, e) = inl e
first_or_after y xs x (suc k, below, e) = inr (k, omega (arith, below), e)

-- nothing is in the empty list
pub none_in_empty : {X : Type 0} (x : X) → Contains [] x → ⊥
none_in_empty x h = omega (arith, h.1)

-- what holds of one item holds of each of a list of it
pub all_one : {X : Type 0} (P : X → Type 0) (x : X) → P x → All P (x ∷ [])
all_one P x h zero d below = h
all_one P x h (suc k) d below = absurd (omega (arith, below))

-- any relation holds of each two items of the empty list, which has none
pub pairs_none : {X : Type 0} (R : X → X → Type 0) → AllPairs R []
pairs_none R i j d less below = absurd (omega (arith, below))

-- a range that is longer by one number
pub range_suc : (first n : ℕ) → range_with_len first (suc n) ≡ range_with_len first n ++ (first + n) ∷ []
range_suc first zero = ap (λ k. k ∷ []) (omega arith)
range_suc first (suc n) =
    ap (λ ks. first ∷ ks) (range_suc (first + 1) n ∙ ap (λ k. range_with_len (first + 1) n ++ k ∷ []) (omega arith))

-- the last of n + 1 numbers from 0 on is n
pub range_more : (n : ℕ) → range_with_len 0 (n + 1) ≡ range_with_len 0 n ++ n ∷ []
range_more n =
    let next : n + 1 ≡ suc n = omega arith in
    let last : 0 + n ≡ n = omega arith in
    ap (λ k. range_with_len 0 k) next ∙ range_suc 0 n ∙ ap (λ k. range_with_len 0 n ++ k ∷ []) last

-- Sums and sublists of lists, and options of values and lists: what std's lemmas lack.
use Rattle.std.proofs.Common.{◌≡◌, ◌≤◌, ◌<◌, ◌+◌, ◌*◌, inl, inr, ℕ, suc, Bool, true, false, cond, List, [], ◌∷◌, ◌++◌}
use Rattle.std.proofs.Common.{length, filter, get_or, sum, Option, Some, None, option_map, refl, sym, ap, subst, ◌∙◌}
use Rattle.std.proofs.Common.{arith}
use Rattle.std.specs.List.{Contains}
use Rattle.std.proofs.Math.Nat.{mul-suc}
use Rattle.std.proofs.lemmas.List.Sums.{sum_by-cons}
use Rattle.m51_cells.proofs.Small.{contains_after, first_or_after, none_in_empty}

-- a sum of numbers that have a bound
pub sum_most : (most : ℕ) (xs : List ℕ) → ((i : ℕ) → i < length xs → get_or xs i 0 ≤ most) → sum xs ≤ most * length xs
sum_most most [] h = omega arith
sum_most most (x ∷ xs) h =
    let rest = sum_most most xs (λ i below. h (suc i) (omega arith)) in
    let whole : sum (x ∷ xs) ≡ x + sum xs = sum_by-cons (λ (y : ℕ). y) x xs in
    omega (arith, rest, whole, h 0 (omega arith), mul-suc most (length xs))

-- what passes the test is among what is left
pub filter_keeps : (p : ℕ → Bool) (xs : List ℕ) (x : ℕ) → Contains xs x → p x ≡ true → Contains (filter p xs) x
filter_keeps p [] x h passes = absurd (none_in_empty x h)
filter_keeps p (y ∷ ys) x h passes = elim (first_or_after y ys x h) [
  | inl here ↦
      let first : p y ≡ true = ap p here ∙ passes in
      subst (λ b. Contains (cond b (y ∷ filter p ys) (filter p ys)) x) (sym first) (0, omega arith, here)
  | inr behind ↦ elim (p y) as (λ b. Contains (cond b (y ∷ filter p ys) (filter p ys)) x) [
    | true ↦ contains_after y (filter p ys) x (filter_keeps p ys x behind passes)
    | false ↦ filter_keeps p ys x behind passes
  ]
]

-- where a function of an option gives nothing, there is none
pub map_none : {A B : Type 0} (f : A → B) (x : Option A) → option_map f x ≡ None → x ≡ None
map_none f None h = refl
map_none f (Some x) h = absurd (cc h)

-- these names before those of the option
abbrev pub names_before : List (List ℕ) → Option (List (List ℕ)) → Option (List (List ℕ))
names_before names None = None
names_before names (Some more) = Some (names ++ more)

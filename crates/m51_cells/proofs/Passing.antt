-- Tests, runs of bytes that pass one, and steps that were not refused: what std's lemmas lack.
use Rattle.std.proofs.Common.{◌≡◌, ℕ, suc, ◌+◌, Bool, true, false, cond, List, [], ◌∷◌, ◌++◌, length, take, Option}
use Rattle.std.proofs.Common.{Some, None, Result, Ok, Err, refl, ap, ◌∙◌, arith}
use Rattle.std.specs.List.{list_all, prefix_len}
use Rattle.std.specs.Option.{option_and_then}
use Rattle.std.proofs.lemmas.Bool.{and_from, and_parts}
use Rattle.std.proofs.lemmas.List.Folds.{list_all-append}
use Rattle.m51_cells.specs.Outcome.{and_then}

-- a value that comes only where the test passes
pub guarded : {A : Type 0} (b : Bool) (x : Option A) (y : A) → cond b x None ≡ Some y → (b ≡ true) × (x ≡ Some y)
guarded true x y h = (refl, h)
guarded false x y h = absurd (cc)

-- the value of an option, on which its next step depends
pub record Goes-on {A B : Type 0} (f : A → Option B) (o : Option A) (y : B) : Type 0 where
  pub value : A
  pub found : o ≡ Some value
  pub goes : f value ≡ Some y

pub goes_on : {A B : Type 0} (f : A → Option B) (o : Option A) (y : B) → option_and_then f o ≡ Some y → Goes-on f o y
goes_on f None y h = absurd (cc)
goes_on f (Some x) y h = record { value = x; found = refl; goes = h }

abbrev done : {A E : Type 0} → A → Result A E
done x = Ok x

-- a result has one value
pub same_Ok : {A E : Type 0} (x y : A) → done {E = E} x ≡ done {E = E} y → x ≡ y
same_Ok x y h = cc

abbrev refused : {A E : Type 0} → E → Result A E
refused e = Err e

-- and one error
pub same_Err : {A E : Type 0} (d e : E) → refused {A = A} d ≡ refused {A = A} e → d ≡ e
same_Err d e h = cc

-- the value of a step that was not refused
pub step_value : {A B E : Type 0} (r : Result A E) (f : A → Result B E) (y : B) → and_then r f ≡ Ok y → (x : A)
    × (r ≡ Ok x) × (f x ≡ Ok y)
step_value (Ok x) f y h = (x, refl, h)
step_value (Err e) f y h = absurd cc

-- bytes that pass one test pass a weaker one
pub weaker : (p q : ℕ → Bool) → ((b : ℕ) → p b ≡ true → q b ≡ true) → (xs : List ℕ) → list_all p xs ≡ true
    → list_all q xs ≡ true
weaker p q h [] all = refl
weaker p q h (x ∷ xs) all =
    let parts : (p x ≡ true) × (list_all p xs ≡ true) = and_parts (p x) (list_all p xs) all in
    and_from (q x) (list_all q xs) (h x parts.0) (weaker p q h xs parts.1)

-- two texts of bytes that pass are one
pub pass_append : (p : ℕ → Bool) (xs ys : List ℕ) → list_all p xs ≡ true → list_all p ys ≡ true → list_all p (xs ++ ys)
    ≡ true
pass_append p xs ys h k = list_all-append p xs ys ∙ and_from (list_all p xs) (list_all p ys) h k

run_step : (p : ℕ → Bool) (x : ℕ) (xs rest : List ℕ) (b : Bool) → b ≡ true → prefix_len p (xs ++ rest) ≡ length xs
    → cond b (1 + prefix_len p (xs ++ rest)) 0 ≡ length (x ∷ xs)
run_step p x xs rest true h len = omega (arith, len)
run_step p x xs rest false h len = absurd (cc)

-- the length of a run that the rest does not continue
pub run_len : (p : ℕ → Bool) (run rest : List ℕ) → list_all p run ≡ true → prefix_len p rest ≡ 0
    → prefix_len p (run ++ rest) ≡ length run
run_len p [] rest all stops = stops
run_len p (x ∷ xs) rest all stops =
    let parts : (p x ≡ true) × (list_all p xs ≡ true) = and_parts (p x) (list_all p xs) all in
    run_step p x xs rest (p x) parts.0 (run_len p xs rest parts.1 stops)

-- no run begins with a byte that fails
pub stops_at : (p : ℕ → Bool) (x : ℕ) (xs : List ℕ) → p x ≡ false → prefix_len p (x ∷ xs) ≡ 0
stops_at p x xs h = ap (λ b. cond b (1 + prefix_len p xs) 0) h

front_step : (p : ℕ → Bool) (x : ℕ) (xs : List ℕ) (n : ℕ) (b : Bool) → p x ≡ b → list_all p (take n xs) ≡ true
    → list_all p (take (cond b (1 + n) 0) (x ∷ xs)) ≡ true
front_step p x xs n true h rest =
    let more : 1 + n ≡ suc n = omega arith in
    ap (λ k. list_all p (take k (x ∷ xs))) more ∙ and_from (p x) (list_all p (take n xs)) h rest
front_step p x xs n false h rest = refl

-- the run that comes first passes
pub front_passes : (p : ℕ → Bool) (xs : List ℕ) → list_all p (take (prefix_len p xs) xs) ≡ true
front_passes p [] = refl
front_passes p (x ∷ xs) = front_step p x xs (prefix_len p xs) (p x) refl (front_passes p xs)

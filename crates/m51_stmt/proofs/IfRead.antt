-- What holds of each answer of a reader, by the parts of the reader.
use Rattle.m51_stmt.proofs.Common.{arith, ◌≡◌, ℕ, Bool, true, false, cond, Option, Some, None, Result, Ok, Err, refl}
use Rattle.m51_stmt.proofs.Common.{option_and_then, option_map, same_Some}
use Rattle.std.specs.Option.{option_or}
use Rattle.m51_cells.proofs.Passing.{same_Ok}
use Rattle.m51_stmt.specs.Answer.{and_then, or_fault}

-- P holds of what there is, if there is something
pub record IfSome {A : Type 0} (o : Option A) (P : A → Type 0) : Type 0 where
  pub holds : (a : A) → o ≡ Some a → P a

-- P holds of what is read, if it is read
pub record IfRead {A : Type 0} (r : Result A ℕ) (P : A → Type 0) : Type 0 where
  pub holds : (a : A) → r ≡ Ok a → P a

pub some_is : {A : Type 0} {a : A} {P : A → Type 0} → P a → IfSome (Some a) P
some_is h = record { holds = λ b is. rw (same_Some _ b is) at h }

pub none_is : {A : Type 0} {P : A → Type 0} → IfSome {A = A} None P
none_is = record { holds = λ b is. absurd (cc is) }

pub some_cond : {A : Type 0} {x y : Option A} {P : A → Type 0} (b : Bool) → IfSome x P → IfSome y P
    → IfSome (cond b x y) P
some_cond true h k = h
some_cond false h k = k

pub some_or : {A : Type 0} {P : A → Type 0} (o p : Option A) → IfSome o P → IfSome p P → IfSome (option_or o p) P
some_or None p h k = k
some_or (Some a) p h k = h

pub some_map : {A B : Type 0} (f : A → B) (P : B → Type 0) (o : Option A) → IfSome o (λ a. P (f a))
    → IfSome (option_map f o) P
some_map f P o h = grind (arith, some_is)

pub some_then : {A B : Type 0} (f : A → Option B) (P : B → Type 0) (o : Option A)
    → ((a : A) → o ≡ Some a → IfSome (f a) P) → IfSome (option_and_then f o) P
some_then f P None h = none_is
some_then f P (Some a) h = h a refl

pub ok_is : {A : Type 0} {a : A} {P : A → Type 0} → P a → IfRead (Ok a) P
ok_is h = record { holds = λ b is. rw (same_Ok {E = ℕ} _ b is) at h }

pub err_is : {A : Type 0} {k : ℕ} {P : A → Type 0} → IfRead {A = A} (Err k) P
err_is = record { holds = λ b is. absurd (cc is) }

pub ok_cond : {A : Type 0} {x y : Result A ℕ} {P : A → Type 0} (b : Bool) → (b ≡ true → IfRead x P)
    → (b ≡ false → IfRead y P) → IfRead (cond b x y) P
ok_cond true h k = h refl
ok_cond false h k = k refl

-- where a test fails there is a fault
pub ok_if : {A : Type 0} {x : Result A ℕ} {P : A → Type 0} (k : ℕ) (b : Bool) → (b ≡ true → IfRead x P)
    → IfRead (cond b x (Err k)) P
ok_if k true h = h refl
ok_if k false h = err_is

pub ok_then : {A B : Type 0} (go : A → Result B ℕ) (P : B → Type 0) (r : Result A ℕ)
    → ((a : A) → r ≡ Ok a → IfRead (go a) P) → IfRead (and_then r go) P
ok_then go P (Ok a) h = h a refl
ok_then go P (Err k) h = err_is

pub ok_or : {A : Type 0} (k : ℕ) (P : A → Type 0) (o : Option A) → IfSome o P → IfRead (or_fault k o) P
ok_or k P o h = grind (arith, ok_is)

abbrev pub flip : {A B C : Type 0} → (A → B → C) → B → A → C
flip f b a = f a b

-- the same after a function of what is chosen
pub read_cond : {L A : Type 0} (f : L → Result A ℕ) (P : A → Type 0) (b : Bool) (x y : L) → (b ≡ true → IfRead (f x) P)
    → (b ≡ false → IfRead (f y) P) → IfRead (f (cond b x y)) P
read_cond f P b x y h k = grind (arith, k)

-- What holds of elements of lists for the reason that they are in them (the rest is in m51_cells, Members).
use Rattle.m51_asm.proofs
use proofs.Common.{◌++◌, ◌∷◌, List, [], inl, inr, refl, All}
use Rattle.m51_cells.proofs.Members.{In, Pairs, every_all, every_in, every_of, in_cases}

pub in_both : {A : Type 0} (P : A → Type 0) (xs ys : List A) → ((x : A) → In x xs → P x) → ((x : A) → In x ys → P x)
    → (x : A) → In x (xs ++ ys) → P x
in_both P xs ys h k x i = elim (in_cases xs ys x i) [ inl l ↦ h x l | inr r ↦ k x r ]

pub all_in : {A : Type 0} (P : A → Type 0) (xs : List A) → ((x : A) → In x xs → P x) → All P xs
all_in P xs h = every_all P xs (every_of P xs h)

pub pairs_within : {A : Type 0} (Q R : A → A → Type 0) (xs : List A) → ((x y : A) → In x xs → In y xs → Q x y → R x y)
    → Pairs Q xs → Pairs R xs
pairs_within Q R [] w h = tt
pairs_within Q R (x ∷ xs) w h = (
  every_of (R x) xs (λ y i. w x y (inl refl) (inr i) (every_in (Q x) xs y h.0 i)),
  pairs_within Q R xs (λ u y i j. w u y (inr i) (inr j)) h.1,
)

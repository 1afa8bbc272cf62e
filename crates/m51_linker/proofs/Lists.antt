-- Lists with one more at their end.
use Rattle.std.proofs.Common.{◌<◌, List, [], ◌∷◌, ◌++◌, length, get_or, subst, arith, length-append}
use Rattle.std.specs.List.{All, AllPairs}
use Rattle.std.proofs.Math.Seq.{get_or-append_seam}
use Rattle.std.proofs.lemmas.List.{get_or_append_left}

-- what holds of each and each later one of a list holds so before the last, and between each of these and the last
pub pairs_front : {X : Type 0} (R : X → X → Type 0) (front : List X) (last : X) → AllPairs R (front ++ last ∷ [])
    → AllPairs R front
pairs_front R front last h = λ i j d less below.
    let longer : j < length (front ++ last ∷ []) = omega (arith, below, length-append front (last ∷ [])) in
    let r = h i j d less longer in
    subst (λ x. R x (get_or front j d)) (get_or_append_left front (last ∷ []) d i (omega (arith, less, below)))
    (subst (λ y. R (get_or (front ++ last ∷ []) i d) y) (get_or_append_left front (last ∷ []) d j below) r)

pub pairs_last : {X : Type 0} (R : X → X → Type 0) (front : List X) (last : X) → AllPairs R (front ++ last ∷ [])
    → All (λ x. R x last) front
pairs_last R front last h = λ i d below.
    let longer : length front < length (front ++ last ∷ []) = omega (arith, length-append front (last ∷ [])) in
    let r = h i (length front) d below longer in
    subst (λ x. R x last) (get_or_append_left front (last ∷ []) d i below)
    (subst (λ y. R (get_or (front ++ last ∷ []) i d) y) (get_or-append_seam front last [] d) r)

pub all_front : {X : Type 0} (P : X → Type 0) (front : List X) (last : X) → All P (front ++ last ∷ []) → All P front
all_front P front last h = λ i d below.
    subst (λ x. P x) (get_or_append_left front (last ∷ []) d i below)
    (h i d (omega (arith, below, length-append front (last ∷ []))))

pub all_last : {X : Type 0} (P : X → Type 0) (front : List X) (last : X) → All P (front ++ last ∷ []) → P last
all_last P front last h =
    subst (λ x. P x) (get_or-append_seam front last [] last)
    (h (length front) last (omega (arith, length-append front (last ∷ []))))

-- Where none is found.
use Rattle.m51_resolve.proofs
use proofs.Common.{◌≡◌, ◌<◌, Bool, true, false, List, [], ◌∷◌, length, arith, None, position, list_any}
use Rattle.std.specs.List.{position_or_len}
use proofs.Alike.{not_true}

within : {X : Type 0} (p : X → Bool) (xs : List X) → list_any p xs ≡ true → position_or_len p xs < length xs
within p [] h = cc
within p (x ∷ xs) h = grind (arith, within p xs)

-- where none is found, none passes
pub none_found : {X : Type 0} (p : X → Bool) (xs : List X) → position p xs ≡ None → list_any p xs ≡ false
none_found p xs h = not_true (list_any p xs) (grind (arith, within))

-- Names read one after the other.
use Rattle.std.proofs.Common.{◌≡◌, ℕ, List, [], ◌∷◌, ◌++◌, Option, Some, None, refl, append_assoc}
use Rattle.m51_cells.proofs.ListsAndOptions.{names_before}
use Rattle.m51_args.specs.Operations.{name_before}

pub name_behind : (names : List (List ℕ)) (found : Option (List ℕ)) (name : List ℕ) (more : Option (List (List ℕ)))
    → found ≡ Some name
    → names_before (names ++ name ∷ []) more ≡ names_before names (name_before found more)
name_behind names None name more h = absurd (cc h)
name_behind names (Some found) name None h = refl
name_behind names (Some found) name (Some more) h = cc (h, append_assoc names (name ∷ []) more)

pub no_name : (names : List (List ℕ)) (found : Option (List ℕ)) (more : Option (List (List ℕ))) → found ≡ None
    → names_before names (name_before found more) ≡ None
no_name names None more h = refl
no_name names (Some found) more h = absurd (cc h)

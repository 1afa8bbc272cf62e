-- Items that are listed one after another, with marks before them.
use Rattle.std.specs.Prelude.{ℕ, zero, suc, List, [], ◌∷◌, ◌++◌}

-- an item, if it is not empty, after its mark
abbrev pub marked : List ℕ → List ℕ → List ℕ
marked mark [] = []
marked mark (c ∷ cs) = mark ++ c ∷ cs

-- the mark of the next item: the first one's, until there was an item
abbrev pub mark_after : List ℕ → List ℕ → List ℕ → List ℕ
mark_after mark between [] = mark
mark_after mark between (c ∷ cs) = between

-- the items from a number on that are not empty: the first one after its mark, the others after the one between them
unfoldable pub listed_from : (ℕ → List ℕ) → List ℕ → List ℕ → ℕ → ℕ → List ℕ
listed_from item mark between zero at = []
listed_from item mark between (suc left) at =
    marked mark (item at) ++ listed_from item (mark_after mark between (item at)) between left (suc at)

-- Of the code, not part of the format: the names that a set of byte vectors holds.
use Rattle.std.specs.Prelude.{ℕ, List, map}
use Rattle.std.specs.Global.{Vec}

abbrev pub items_of : List (Vec ℕ) → List (List ℕ)
items_of keys = map (λ k. k.items) keys

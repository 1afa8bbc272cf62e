-- Ascending numbers.
use Rattle.std.specs.Prelude.{ℕ, ◌<◌, List}
use Rattle.std.specs.List.{AllPairs}

-- each number is below every later one, so they are all different
abbrev pub Rises : List ℕ → Type 0
Rises numbers = AllPairs (λ one two. one < two) numbers

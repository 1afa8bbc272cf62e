-- The content of a file that an option names.
use Rattle.std.specs.Prelude.{ℕ, List, Option, Some, None, slice_get}

-- the first of these, where the option names a file
abbrev pub content_if : Option (List ℕ) → List (List ℕ) → Option (List ℕ)
content_if None contents = None
content_if (Some name) contents = slice_get contents 0

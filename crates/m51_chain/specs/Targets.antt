-- The text where a file could not be kept.
use Rattle.std.specs.Prelude.{ℕ, List, ◌++◌, codes}

abbrev pub unkept_text : List ℕ → List ℕ
unkept_text file = codes "WRITE FAULT " ++ file ++ codes "\n"

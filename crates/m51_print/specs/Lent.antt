-- The texts of borrowed lines.
use Rattle.std.specs.Prelude.{ℕ, List, Vec, map}
use Rattle.std.specs.Borrow.{Bor}
use Rattle.std.specs.declared.alloc.Global.{Global}

-- the texts of lines
abbrev pub texts : List (Bor (List ℕ)) → List (List ℕ)
texts lines = map (λ line. line.now) lines

-- the texts of the lines of a file
abbrev pub file_texts : Vec (Bor (List ℕ)) Global → List (List ℕ)
file_texts file = texts file.items

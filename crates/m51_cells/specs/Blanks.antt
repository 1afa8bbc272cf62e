-- Blanks in a line: spaces and tabs. Lines that are skipped.
use Rattle.std.specs.Prelude.{ℕ, Bool, true, ◌||◌, ◌==◌, List, [], ◌∷◌}
use Rattle.std.specs.List.{list_all}

-- the characters by name
abbrev pub space : ℕ
space = 0x20

abbrev pub tab : ℕ
tab = 0x09

abbrev pub semicolon : ℕ
semicolon = 0x3B

-- a space or a tab
abbrev pub is_blank : ℕ → Bool
is_blank byte = byte == space || byte == tab

-- a line that is skipped: it is empty, has only blanks, or begins with a semicolon
abbrev pub is_skipped : List ℕ → Bool
is_skipped [] = true
is_skipped (first ∷ rest) = first == semicolon || list_all is_blank (first ∷ rest)

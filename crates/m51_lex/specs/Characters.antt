-- The characters of a line that mean something, by name (the assembler's rules of lines).
use Rattle.std.specs.Prelude.{ℕ, Bool, ◌||◌, ◌==◌, List, codes}
use Rattle.std.specs.Char.{is_ascii_alphanumeric}
use Rattle.std.specs.List.{list_any}

abbrev pub space : ℕ
space = 32

abbrev pub tab : ℕ
tab = 9

abbrev pub quote : ℕ
quote = 39

abbrev pub semicolon : ℕ
semicolon = 59

-- one of some characters
abbrev pub is_character_among : ℕ → List ℕ → Bool
is_character_among byte characters = list_any (λ c. c == byte) characters

-- a letter, a digit, ? or _
abbrev pub is_name_byte : ℕ → Bool
is_name_byte byte = is_ascii_alphanumeric byte || is_character_among byte (codes "?_")

-- the twelve signs
abbrev pub is_sign : ℕ → Bool
is_sign byte = is_character_among byte (codes ",:+-*/()#@.$")

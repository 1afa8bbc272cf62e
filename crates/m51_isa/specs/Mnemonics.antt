-- The mnemonics of the instruction table, with the generic CALL.
use Rattle.std.specs.Prelude.{ℕ, Bool, not, List, [], ◌∷◌, codes, map}
use Rattle.std.specs.List.{filter, list_any}
use Rattle.std.specs.Str.{bytes_eq}
use Rattle.m51_isa.specs.Search.{forms}
use Rattle.m51_isa.specs.Table.{text_of}

-- these words, each once
abbrev pub each_once : List (List ℕ) → List (List ℕ)
each_once [] = []
each_once (word ∷ words) = word ∷ filter (λ w. not (bytes_eq w word)) (each_once words)

-- CALL, and the mnemonics in the order of the table
abbrev pub mnemonics : List (List ℕ)
mnemonics = codes "CALL" ∷ each_once (map (λ i. (text_of i).mnemonic) (forms 0 0))

-- one of the mnemonics
unfoldable pub is_mnemonic : List ℕ → Bool
is_mnemonic word = list_any (λ w. bytes_eq w word) mnemonics

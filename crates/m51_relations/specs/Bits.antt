-- Bits of rows of words.
use Rattle.std.specs.Prelude.{ℕ, ◌+◌, ◌/◌, ◌%◌, Bool, nat_eq, List, slice_index}
use Rattle.std.specs.Int.{bit_at}

-- bit v of a row of words of 64 bits: bit v mod 64 of word v / 64
unfoldable pub bit : List ℕ → ℕ → Bool
bit words v = nat_eq (bit_at (slice_index words (v / 64)) (v % 64)) 1

-- how many words hold a bit for each of `count` units
abbrev pub words_for : ℕ → ℕ
words_for count = (count + 63) / 64

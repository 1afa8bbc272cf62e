-- The characters of a line are ASCII.
use Rattle.std.proofs.Common.{◌≡◌, ℕ, ◌<◌, true, List, [], ◌∷◌, arith}
use Rattle.std.specs.List.{list_all}
use Rattle.std.specs.Str.{IsAscii}
use Rattle.std.proofs.lemmas.Bool.{and_parts}
use Rattle.std.proofs.lemmas.Bool.Decides.{nat_tests}
use Rattle.std.proofs.lemmas.Str.Ascii.{IsAscii-nil, IsAscii-cons}
use Rattle.m51_text.specs.Said.{is_character}

below_128 : (byte : ℕ) → is_character byte ≡ true → byte < 128
below_128 byte h = grind (arith, nat_tests)

pub line_is_ascii : (line : List ℕ) → list_all is_character line ≡ true → IsAscii line
line_is_ascii [] h = IsAscii-nil
line_is_ascii (byte ∷ line) h =
    let parts : (is_character byte ≡ true) × (list_all is_character line ≡ true) =
    and_parts (is_character byte) (list_all is_character line) h in
    IsAscii-cons byte line (below_128 byte parts.0) (line_is_ascii line parts.1)

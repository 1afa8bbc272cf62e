-- Letters and digits are ASCII.
use Rattle.std.proofs.Common.{◌≡◌, ℕ, ◌<◌, true, List, [], ◌∷◌, arith}
use Rattle.std.specs.Char.{is_ascii_alphanumeric}
use Rattle.std.specs.List.{list_all}
use Rattle.std.specs.Str.{IsAscii}
use Rattle.std.proofs.lemmas.Bool.Decides.{nat_tests}
use Rattle.std.proofs.lemmas.Str.Ascii.{IsAscii-nil, IsAscii-cons}
use Rattle.std.proofs.lemmas.Bool.{and_parts}

below_128 : (byte : ℕ) → is_ascii_alphanumeric byte ≡ true → byte < 128
below_128 byte h = grind (arith, nat_tests)

-- a run of letters and digits is ASCII
pub run_is_ascii : (run : List ℕ) → list_all is_ascii_alphanumeric run ≡ true → IsAscii run
run_is_ascii [] h = IsAscii-nil
run_is_ascii (byte ∷ run) h =
    let parts : (is_ascii_alphanumeric byte ≡ true) × (list_all is_ascii_alphanumeric run ≡ true) =
    and_parts (is_ascii_alphanumeric byte) (list_all is_ascii_alphanumeric run) h in
    IsAscii-cons byte run (below_128 byte parts.0) (run_is_ascii run parts.1)

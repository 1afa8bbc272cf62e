use Rattle.std.proofs.Common.{◌≡◌, ◌++◌, true, length}
use Rattle.std.specs.List.{list_all}
use Rattle.m51_cells.specs.Hex.{is_hex_digit}
use Rattle.m51_hex.specs.Line.{bytes_of_digits}
use Rattle.m51_hex.proofs.digits.bytes_of_digits.Given as goal

abbrev pub invariant-loop-rest : goal.invariant-loop-rest
invariant-loop-rest l = record {
  digits : list_all is_hex_digit l.rest ≡ true;
  told : l.bytes.items ++ bytes_of_digits l.rest ≡ bytes_of_digits l.digits;
}

abbrev pub decreases-loop-rest : goal.decreases-loop-rest
decreases-loop-rest l = length l.rest

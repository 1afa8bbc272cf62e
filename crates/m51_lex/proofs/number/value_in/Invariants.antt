use Rattle.std.proofs.Common.{◌≡◌, ◌≤◌, drop}
use Rattle.m51_lex.specs.Number.{of_16_bits, value_in}
use Rattle.m51_lex.proofs.number.value_in.Given as goal

abbrev pub invariant-loop-digit : goal.invariant-loop-digit
invariant-loop-digit l = record {
  base : (2 ≤ l.base) × (l.base ≤ 16);
  fits : l.value ≤ 65535;
  told : of_16_bits (value_in l.base l.value (drop l.digit-index l.digits))
      ≡ of_16_bits (value_in l.fn.base 0 l.digits);
}

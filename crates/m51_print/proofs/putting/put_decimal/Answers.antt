use Rattle.std.proofs.Common.{arith, lit<}
use Rattle.std.proofs.lemmas.Fmt.{length-decimal-le}
use Rattle.m51_print.proofs.putting.put_decimal.Goals as goal

pub put_digits-requires : goal.put_digits-requires
put_digits-requires c = omega (arith, length-decimal-le 20 c.args.number (lit< tt) (omega arith) c.ranges.number.fits)

pub returns-clause-bound : goal.returns-clause-bound
returns-clause-bound c = omega (arith, length-decimal-le 20 c.args.number (lit< tt) (omega arith) c.ranges.number.fits)

use Rattle.std.proofs.Common.{◌+◌, ◌/◌, ◌%◌, ◌∷◌, [], ap, length, arith, length-append, append_assoc}
use Rattle.std.proofs.lemmas.Fmt.{decimal_step}
use Rattle.std.specs.Fmt.{decimal}
use Rattle.m51_print.proofs.putting.+put_digits.Goals as goal

pub put_digits-front-requires : goal.put_digits-front-requires
put_digits-front-requires t c =
    let n = c.args.number in
    let step = decimal_step n c.if-number-lt10.false c.ranges.number.fits in
    (omega arith, omega (arith, ap length step, length-append (decimal (n / 10)) ((48 + n % 10) ∷ [])))

pub put-requires-2 : goal.put-requires-2
put-requires-2 t c =
    let n = c.args.number in
    let step = decimal_step n c.if-number-lt10.false c.ranges.number.fits in
    omega (arith, ap length step, length-append (decimal (n / 10)) ((48 + n % 10) ∷ []))

pub returns-clause-end : goal.returns-clause-end
returns-clause-end t c =
    let n = c.args.number in
    let step = decimal_step n c.if-number-lt10.false c.ranges.number.fits in
    omega (arith, ap length step, length-append (decimal (n / 10)) ((48 + n % 10) ∷ []))

pub returns-clause-written : goal.returns-clause-written
returns-clause-written t c =
    let step = decimal_step c.args.number c.if-number-lt10.false c.ranges.number.fits in
    rw (step, c.put-2.ensures.written, c.put_digits-front.ensures.written, append_assoc)

use Rattle.std.proofs.Common.{refl, rules}
use Rattle.m51_isa.proofs.numbers.numbers_of.Goals as goal

pub returns-in-JbBitRel-clause-is : goal.returns-in-JbBitRel-clause-is
returns-in-JbBitRel-clause-is c =
    let e = c.bytes-in-JbBitRel.ensures in
    rw (c.in-JbBitRel.is, e.row, e.first, e.second, e.third)
    (record { is = refl; first = search rules; second = search rules; third = tt })

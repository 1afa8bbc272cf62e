use Rattle.std.proofs.Common.{arith}
use Rattle.m51_hex.proofs.Spelling.{checksum_of_parts}
use Rattle.m51_hex.proofs.records.checksum_of.Goals as goal

pub returns : goal.returns
returns c =
    checksum_of_parts c.args.front.now c.args.bytes.now c.wrapping_neg.result (omega (arith, c.wrapping_neg.type_inv))
    (rw (← c.low_sum.ensures, ← c.low_sum-2.ensures) c.wrapping_neg.ensures)

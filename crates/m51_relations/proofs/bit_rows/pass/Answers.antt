use Rattle.std.proofs.Common.{arith}
use Rattle.m51_relations.proofs.BitLaws.{rows_passed}
use Rattle.m51_relations.proofs.bit_rows.pass.Goals as goal

pub returns-clause-joined : goal.returns-clause-joined
returns-clause-joined c =
    rows_passed c.args.rows.now c.loop-row.rows c.args.through.now c.args.k c.loop-row.auto.rows
    (λ u v below. c.loop-row.invariant.done u v (omega (arith, below, c.loop-row-test.false)))

use Rattle.m51_party.proofs.Common.{arith}
use Rattle.m51_party.proofs.Fronts.{at_error, ending_cut, ending_on}
use Rattle.m51_party.proofs.lines.write_ends.Goals as goal

pub returns-in_err-write_end-clause-front : goal.returns-in_err-write_end-clause-front
returns-in_err-write_end-clause-front g c =
    at_error c.from_residual.result _
    (ending_cut _ _ _ c.loop-index.index c.args.seats.now c.index-seats-index.result c.loop-index-test.true
    c.index-seats-index.is c.loop-index.invariant.ending c.in_err-write_end.ensures.front)

pub loop-index-preserved : goal.loop-index-preserved
loop-index-preserved g c = record {
  later = omega (arith, c.in_ok-write_end.ensures.cause.later, c.loop-index.invariant.later);
  ending = ending_on _ _ _ c.loop-index.index c.args.seats.now c.index-seats-index.result c.loop-index-test.true
      c.index-seats-index.is c.loop-index.invariant.ending c.in_ok-write_end.ensures.whole;
}

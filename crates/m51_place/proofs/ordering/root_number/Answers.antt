use Rattle.m51_place.proofs.Common.{arith, vectors}
use Rattle.m51_place.proofs.Ranks.{bit_clear, bit_set, bits_left}
use Rattle.m51_place.proofs.ordering.root_number.Goals as goal

pub returns-then-bits-eq1 : goal.returns-then-bits-eq1
returns-then-bits-eq1 c =
    omega (
      arith,
      bit_set c.args.graph.now c.args.unit vectors c.loop-index.bits c.loop-index.index (omega arith)
          c.loop-index.invariant.bits c.if-bits-eq1.true,
      c.loop-index.invariant.passed,
    )

pub loop-index-preserved : goal.loop-index-preserved
loop-index-preserved c = record {
  bits = bits_left c.args.graph.now c.args.unit vectors c.loop-index.bits c.loop-index.index (omega arith)
      c.loop-index.invariant.bits;
  passed = omega (
    arith,
    bit_clear c.args.graph.now c.args.unit vectors c.loop-index.bits c.loop-index.index (omega arith)
        c.loop-index.invariant.bits c.if-bits-eq1.false,
    c.loop-index.invariant.passed,
  );
}

use Rattle.m51_stackbound.proofs.Common.{arith, take_all}
use Rattle.m51_stackbound.proofs.Adding.{greatest_more, greatest_none}
use Rattle.m51_stackbound.proofs.totals.total_of.Goals as goal

pub loop-vector-init : goal.loop-vector-init
loop-vector-init c = greatest_none _

pub loop-vector-preserved : goal.loop-vector-preserved
loop-vector-preserved c =
    rw (c.with_bytes-greatest.ensures, c.depth_in.ensures.value)
    (greatest_more _ _ _ c.loop-vector-test.true c.requires.rising _ c.loop-vector.invariant)

pub returns : goal.returns
returns c = record {
  greatest = c.loop-vector.greatest;
  are = rw (take_all c.loop-vector.vector-index c.args.vectors.now (omega arith)) at c.loop-vector.invariant;
  total_is = rw c.depth_in-2.ensures.value;
}

use Rattle.m51_stackbound.proofs.Common.{arith}
use Rattle.m51_stackbound.proofs.Covering.{handlers_rise}
use Rattle.m51_stackbound.proofs.Deciding.{bound_is, total_above}
use Rattle.m51_stackbound.proofs.bounding.bound_by.Goals as goal

pub total_of-total-requires-clause-rising : goal.total_of-total-requires-clause-rising
total_of-total-requires-clause-rising c =
    rw (c.deref.ensures.value, c.in_ok-vectors.ensures) (handlers_rise c.args.layout.now)

pub returns-then-total-gt255 : goal.returns-then-total-gt255
returns-then-total-gt255 c = (
  c.requires.heights,
  total_above _ _ _ _ c.requires.points c.requires.depths c.if-above.ensures.1 _
      (rw (c.deref.ensures.value, c.in_ok-vectors.ensures) at c.total_of-total.ensures)
      (omega (arith, c.if-total-gt255.true)),
)

pub returns : goal.returns
returns c =
    bound_is _ _ _ _ c.requires.points c.requires.depths c.if-above.ensures.1 _ _
    (rw (c.deref.ensures.value, c.in_ok-vectors.ensures) at c.total_of-total.ensures) c.requires.heights
    c.if-above.ensures.0 c.in_ok-bound.ensures

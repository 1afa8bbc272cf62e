use Rattle.m51_stackbound.proofs.Common.{arith}
use Rattle.std.proofs.lemmas.Bool.{eqb-true}
use Rattle.m51_stackbound.proofs.CallRows.{alone, closed_again}
use Rattle.m51_stackbound.proofs.walking.clear.Goals as goal

pub returns : goal.returns
returns c = record {
  closed = closed_again _ _ _ _ c.in_ok-walk.ensures _ c.requires.closed c.in_ok-note.ensures;
  apart = λ e.
      alone _ _ _ _ c.in_ok-walk.ensures c.requires.closed
      (λ k. absurd (cc (c.has.ensures.1 k, c.if-has.false)))
      (omega (arith, eqb-true c.len.result c.len-before.result e, c.len.ensures.value, c.len-before.ensures.value));
}

use Rattle.std.proofs.Common.{arith}
use Rattle.std.proofs.Math.Seq.{take-add}
use Rattle.std.proofs.lemmas.List.{take_rest}
use Rattle.std.proofs.KnownBytes.{Appends-trans}
use Rattle.m51_shelf.proofs.sink.write_whole.Goals as goal

pub loop-done-preserved : goal.loop-done-preserved
loop-done-preserved g c = record {
  within = omega (arith, c.in_ok-done.ensures.bound);
  text = rw take-add (Appends-trans _ _ _ _ _ c.loop-done.invariant.text (rw take_rest at c.in_ok-done.ensures.bytes));
  later = omega (arith, c.in_ok-done.ensures.cause.later);
}

use Rattle.std.proofs.Common.{sym, ◌∙◌, arith}
use Rattle.m51_records.proofs.ContentLaws.{one_passed}
use Rattle.m51_records.proofs.fixup.passed_by.Goals as goal

pub loop-passed-preserved : goal.loop-passed-preserved
loop-passed-preserved c = record {
  few = omega (arith, c.loop-passed-test.true);
  passed = one_passed c.args.segment c.args.offset c.loop-passed.passed c.args.pieces.now c.index-pieces-passed.result
      c.loop-passed-test.true (sym c.index-pieces-passed.is)
      c.loop-passed.invariant.passed (sym c.ends_by.ensures ∙ c.if-ends_by.true);
}

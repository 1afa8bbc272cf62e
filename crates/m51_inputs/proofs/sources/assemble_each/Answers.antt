use Rattle.std.proofs.Common.{refl, arith}
use Rattle.m51_inputs.proofs.AnswerLists.{assembled_more, words_more}
use Rattle.m51_inputs.proofs.sources.assemble_each.Goals as goal

pub loop-source-preserved : goal.loop-source-preserved
loop-source-preserved c = record {
  answers = assembled_more c.args.includes.now c.args.sources.now c.loop-source.source-index c.source-item.result
      c.loop-source.answered c.push.new.self _
      (omega arith) c.source-item.is c.in_ok-push.ensures.ok c.in_ok-assembled.ensures c.loop-source.invariant.answers;
  words = words_more c.args.sources.now c.loop-source.source-index c.source-item.result c.loop-source.answered
      c.push.new.self _
      (omega arith) c.source-item.is c.in_ok-push.ensures.ok refl c.loop-source.invariant.words;
}

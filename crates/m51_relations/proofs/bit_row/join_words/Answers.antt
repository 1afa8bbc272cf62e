use Rattle.std.proofs.Common.{arith}
use Rattle.m51_relations.proofs.BitLaws.{bits_joined}
use Rattle.m51_relations.proofs.bit_row.join_words.Goals as goal

pub returns : goal.returns
returns c =
    bits_joined c.args.words.now c.args.more.now c.loop-k.words c.requires c.loop-k.auto.words
    (λ k below. c.loop-k.invariant.done k (omega (arith, below, c.loop-k-test.false)))

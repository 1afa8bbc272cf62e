use Rattle.std.proofs.Common.{◌≡◌, length, rules}
use Rattle.std.specs.Prelude.{min}
use Rattle.std.proofs.lemmas.List.{take_rest}
use Rattle.m51_trace.proofs.Copied.{copied}
use Rattle.m51_trace.proofs.words.build_words.Goals as goal

pub returns : goal.returns
returns c =
    let at : c.min-start.result ≡ min c.args.count (length c.args.words.now) = search rules in
    copied c.args.words.now _ c.args.count c.min-start.result c.loop-word.word-index _
    c.loop-word.invariant c.loop-word-test.false (take_rest c.args.words.now c.min-start.result) at

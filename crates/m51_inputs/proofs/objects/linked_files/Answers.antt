use Rattle.std.proofs.Common.{◌∙◌, ◌+◌, None, drop, get_or, refl, sym, ap, arith}
use Rattle.m51_inputs.specs.Steps.{files_before, linked_kinds}
use Rattle.m51_inputs.proofs.LinkedLists.{came, rest_refused, word_at}
use Rattle.m51_inputs.proofs.objects.linked_files.Goals as goal

pub loop-word-preserved : goal.loop-word-preserved
loop-word-preserved c =
    c.in_ok-add_word.ensures
    (linked_kinds (c.loop-word.word + 1) (drop (c.loop-word.word + 1) c.args.endings.now)
    (drop (c.loop-word.word + 1) c.args.contents.now))
    ∙ ap (files_before c.loop-word.linked)
    (sym (word_at c.args.endings.now c.args.contents.now c.loop-word.word
    (get_or c.args.endings.now c.loop-word.word None) c.index-contents-word.result c.loop-word.sources.items
    (omega arith) (omega arith) refl c.index-contents-word.is))
    ∙ c.loop-word.invariant

pub returns-in_err-add_word : goal.returns-in_err-add_word
returns-in_err-add_word c =
    let after = linked_kinds (c.loop-word.word + 1) (drop (c.loop-word.word + 1) c.args.endings.now)
    (drop (c.loop-word.word + 1) c.args.contents.now) in
    let rest = linked_kinds c.loop-word.word (drop c.loop-word.word c.args.endings.now)
    (drop c.loop-word.word c.args.contents.now) c.loop-word.sources.items in
    let at = word_at c.args.endings.now c.args.contents.now c.loop-word.word
    (get_or c.args.endings.now c.loop-word.word None) c.index-contents-word.result c.loop-word.sources.items
    (omega arith) (omega arith) refl c.index-contents-word.is in
    rw (came c.from_residual.result _ c.from_residual.ensures.1)
    (rest_refused _ c.loop-word.linked.modules c.loop-word.linked.libraries rest _ c.loop-word.invariant
    (rw at (c.in_err-add_word.ensures after)))

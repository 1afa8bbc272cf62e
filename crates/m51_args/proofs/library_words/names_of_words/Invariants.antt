use Rattle.std.proofs.Common.{◌≡◌, drop}
use Rattle.m51_cells.proofs.ListsAndOptions.{names_before}
use Rattle.m51_args.specs.Operations.{names_of_words}
use Rattle.m51_jobs.specs.Texts.{lent}
use Rattle.m51_args.proofs.library_words.names_of_words.Given as goal

abbrev pub invariant-loop-word : goal.invariant-loop-word
invariant-loop-word l = names_before l.names.items (names_of_words (lent (drop l.word-index l.words)))
    ≡ names_of_words (lent l.words)

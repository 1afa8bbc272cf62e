use Rattle.std.proofs.Common.{◌≡◌, ◌++◌, drop}
use Rattle.m51_jobs.specs.Texts.{lent}
use Rattle.m51_args.proofs.library_words.file_names.Given as goal

abbrev pub invariant-loop-word : goal.invariant-loop-word
invariant-loop-word l = l.names.items ++ lent (drop l.word-index l.words) ≡ lent l.words

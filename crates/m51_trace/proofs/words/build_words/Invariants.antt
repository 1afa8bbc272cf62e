use Rattle.std.proofs.Common.{◌≡◌, ◌∷◌, ◌++◌, drop}
use Rattle.std.specs.Prelude.{codes}
use Rattle.m51_jobs.specs.Texts.{texts}
use Rattle.m51_trace.proofs.words.build_words.Given as goal

abbrev pub invariant-loop-word : goal.invariant-loop-word
invariant-loop-word l = texts l.all.items ++ texts (drop l.word-index l.rest) ≡ codes "build" ∷ texts l.rest

use Rattle.std.proofs.Common.{◌≡◌, take}
use Rattle.m51_inputs.specs.Answered.{answers_of, words_of}
use Rattle.m51_inputs.specs.Sorting.{files_in, words_in}
use Rattle.m51_inputs.specs.Sources.{AreAnswers}
use Rattle.m51_inputs.proofs.sources.assemble_each.Given as goal

abbrev pub invariant-loop-source : goal.invariant-loop-source
invariant-loop-source l = record {
  answers : AreAnswers l.includes (files_in (take l.source-index l.sources)) (answers_of l.answered);
  words : words_of l.answered ≡ words_in (take l.source-index l.sources);
}

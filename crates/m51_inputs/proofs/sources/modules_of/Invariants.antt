use Rattle.std.proofs.Common.{◌≡◌, ◌++◌, length}
use Rattle.m51_inputs.specs.Answered.{answers_of, words_of}
use Rattle.m51_inputs.specs.Sources.{modules_in, faults_in}
use Rattle.m51_inputs.proofs.sources.modules_of.Given as goal

abbrev pub invariant-loop-answer : goal.invariant-loop-answer
invariant-loop-answer l = record {
  modules : l.modules.items ++ modules_in (answers_of l.left.items) ≡ modules_in (answers_of l.fn.answers);
  faulty : l.faulty.items ++ faults_in (words_of l.left.items) (answers_of l.left.items)
      ≡ faults_in (words_of l.fn.answers) (answers_of l.fn.answers);
}

abbrev pub decreases-loop-answer : goal.decreases-loop-answer
decreases-loop-answer l = length l.left.items

use Rattle.m51_inputs.proofs.SortedFiles.{IsSortedTo}
use Rattle.m51_inputs.proofs.sorting.sort.Given as goal

abbrev pub invariant-loop-word : goal.invariant-loop-word
invariant-loop-word l = IsSortedTo l.word l.files l.contents l.sorted

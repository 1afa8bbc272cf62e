use Rattle.std.proofs.Common.{◌≡◌, ◌<◌, ◌≤◌, ℕ, bit_or, slice_index}
use Rattle.m51_relations.proofs.bit_row.join_words.Given as goal

abbrev pub invariant-loop-k : goal.invariant-loop-k
invariant-loop-k l = record {
  done : (j : ℕ) → j < l.k → slice_index l.words j ≡ bit_or (slice_index l.fn.words j) (slice_index l.more j);
  rest : (j : ℕ) → l.k ≤ j → slice_index l.words j ≡ slice_index l.fn.words j;
}

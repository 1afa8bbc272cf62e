use Rattle.m51_graph.proofs.Common.{◌≡◌, ℕ, length, take, is_cut, pairs}
use Rattle.m51_graph.proofs.drawing.cut_rows.Given as goal

abbrev pub invariant-loop-line : goal.invariant-loop-line
invariant-loop-line l = record {
  count : l.set.count ≡ length l.titles;
  pairs : (u v : ℕ) → pairs l.set u v ≡ is_cut l.titles (take l.line-index l.controls) (u, v);
}

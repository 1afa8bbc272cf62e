use Rattle.m51_graph.proofs.Common.{◌≡◌, take, flipped, pairs, edge_test}
use Rattle.m51_graph.proofs.reaching.caller_rows.Given as goal

abbrev pub invariant-loop-from : goal.invariant-loop-from
invariant-loop-from l = record {
  count : l.rows.count ≡ l.count;
  pairs : pairs l.rows ≡ flipped (edge_test (take l.from-index l.edges));
}

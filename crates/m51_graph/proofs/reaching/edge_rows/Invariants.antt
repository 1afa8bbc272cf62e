use Rattle.m51_graph.proofs.Common.{◌≡◌, take, pairs, edge_test}
use Rattle.m51_graph.proofs.reaching.edge_rows.Given as goal

abbrev pub invariant-loop-from : goal.invariant-loop-from
invariant-loop-from l = record {
  count : l.rows.count ≡ l.count;
  pairs : pairs l.rows ≡ edge_test (take l.from-index l.edges);
}

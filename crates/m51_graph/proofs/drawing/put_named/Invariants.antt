use Rattle.m51_graph.proofs.Common.{◌≡◌, ◌||◌, ℕ, take, list_any, edge_named, is_edge, pairs}
use Rattle.m51_graph.proofs.drawing.put_named.Given as goal

abbrev pub invariant-loop-name : goal.invariant-loop-name
invariant-loop-name l = record {
  count : l.set.count ≡ l.fn.set.count;
  pairs : (u v : ℕ) → pairs l.set u v
      ≡ (pairs l.fn.set u v || list_any (λ name. is_edge (u, v) (edge_named l.titles l.from name))
      (take l.name-index l.names));
}

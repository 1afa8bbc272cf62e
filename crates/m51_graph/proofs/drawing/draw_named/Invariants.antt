use Rattle.m51_graph.proofs.Common.{◌≡◌, drop, filter_map, edge_named, with_edges}
use Rattle.m51_graph.proofs.drawing.draw_named.Given as goal

abbrev pub invariant-loop-name : goal.invariant-loop-name
invariant-loop-name l = record {
  count : l.edges.count ≡ l.fn.edges.count;
  drawn : with_edges l.edges.list (filter_map (edge_named l.titles l.from) (drop l.name-index l.names))
      ≡ with_edges l.fn.edges.list (filter_map (edge_named l.titles l.from) l.names);
}

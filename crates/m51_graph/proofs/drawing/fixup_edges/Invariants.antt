use Rattle.m51_graph.proofs.Common.{◌≡◌, [], length, range_with_len, module_edges, with_edges}
use Rattle.std.proofs.Common.{flat_map}
use Rattle.m51_graph.proofs.drawing.fixup_edges.Given as goal

abbrev pub invariant-loop-module : goal.invariant-loop-module
invariant-loop-module l = record {
  count : l.edges.count ≡ length l.units;
  drawn : l.edges.list ≡ with_edges [] (flat_map (module_edges l.joined) (range_with_len 0 l.«module»));
}

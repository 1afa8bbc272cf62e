use Rattle.m51_graph.proofs.Common.{◌≡◌, drop, filter_map, fixup_edge, with_edges}
use Rattle.m51_graph.proofs.drawing.draw_fixups.Given as goal

abbrev pub invariant-loop-fixup : goal.invariant-loop-fixup
invariant-loop-fixup l = record {
  count : l.edges.count ≡ l.fn.edges.count;
  drawn : with_edges l.edges.list (filter_map (fixup_edge l.joined l.«module») (drop l.fixup-index l.fixup-items))
      ≡ with_edges l.fn.edges.list (filter_map (fixup_edge l.joined l.«module») l.parts.fixups);
}

use Rattle.m51_graph.proofs.Common.{◌≡◌, drop}
use Rattle.m51_graph.specs.Drawing.{with_added}
use Rattle.m51_graph.proofs.drawing.draw_lines.Given as goal

abbrev pub invariant-loop-line : goal.invariant-loop-line
invariant-loop-line l = record {
  count : l.edges.count ≡ l.fn.edges.count;
  drawn : with_added l.titles (drop l.line-index l.controls) l.edges.list
      ≡ with_added l.titles l.controls l.fn.edges.list;
}

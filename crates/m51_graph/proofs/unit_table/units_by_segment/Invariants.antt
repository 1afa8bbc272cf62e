use Rattle.m51_graph.proofs.Common.{◌≡◌, ◌≤◌, ◌++◌, drop}
use Rattle.m51_graph.specs.Numbered.{units_by_segment}
use Rattle.m51_graph.proofs.unit_table.units_by_segment.Given as goal

abbrev pub invariant-loop-segment : goal.invariant-loop-segment
invariant-loop-segment l = record {
  fewer : l.unit ≤ l.segment-index;
  rest : l.table.items ++ units_by_segment l.unit (drop l.segment-index l.segments) ≡ units_by_segment 0 l.segments;
}

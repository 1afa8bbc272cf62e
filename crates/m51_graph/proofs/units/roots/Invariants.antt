use Rattle.m51_graph.proofs.Common.{◌≡◌, ◌≤◌, ◌++◌, drop, code_segments}
use Rattle.m51_graph.specs.Units.{roots_from, roots_of}
use Rattle.m51_graph.proofs.units.roots.Given as goal

abbrev pub invariant-loop-segment : goal.invariant-loop-segment
invariant-loop-segment l = record {
  fewer : l.unit ≤ l.segment-index;
  rest : l.roots.items ++ roots_from l.unit (code_segments (drop l.segment-index l.segments)) ≡ roots_of l.segments;
}

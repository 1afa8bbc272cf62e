use Rattle.std.specs.Prelude.{take}
use Rattle.m51_module.specs.Kept.{AreEdgeRows}
use Rattle.m51_module.proofs.tables.edge_rows.Given as goal

abbrev pub invariant-loop-edge : goal.invariant-loop-edge
invariant-loop-edge l = AreEdgeRows (take l.edge-index l.edges) l.count l.rows.items

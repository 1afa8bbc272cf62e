use Rattle.m51_graph.proofs.Common.{arith}
use Rattle.m51_graph.proofs.unit_table.units_by_segment.Goals as goal

pub overflow_add-unit : goal.overflow_add-unit
overflow_add-unit c = omega (arith, c.loop-segment.invariant.fewer, c.loop-segment-test.true, c.requires)

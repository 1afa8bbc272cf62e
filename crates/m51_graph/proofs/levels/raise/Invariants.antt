use Rattle.m51_graph.proofs.Common.{take, IsClimbing}
use Rattle.m51_graph.proofs.levels.raise.Given as goal

abbrev pub invariant-loop-from : goal.invariant-loop-from
invariant-loop-from l = IsClimbing l.edges (take l.from-index l.edges) l.fn.levels l.levels l.rose

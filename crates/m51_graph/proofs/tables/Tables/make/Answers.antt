use Rattle.m51_graph.proofs.tables.Tables.make.Goals as goal

pub levels-requires-clause-no_cycle : goal.levels-requires-clause-no_cycle
levels-requires-clause-no_cycle c = rw c.as_slice-list.ensures c.requires.graph.no_cycle

use Rattle.m51_graph.proofs.NamedUnits.{AreBefore}
use Rattle.m51_graph.proofs.unit_names.numbers_of.Given as goal

abbrev pub invariant-loop-unit : goal.invariant-loop-unit
invariant-loop-unit l = AreBefore l.titles l.unit l.numbers.entries

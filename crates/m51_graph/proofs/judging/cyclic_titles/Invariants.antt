use Rattle.m51_graph.proofs.Common.{◌≡◌, ◌++◌, drop, pairs, cyclic_from}
use Rattle.m51_graph.proofs.judging.cyclic_titles.Given as goal

abbrev pub invariant-loop-unit : goal.invariant-loop-unit
invariant-loop-unit l = l.cyclic.items ++ cyclic_from (pairs l.reach) l.unit (drop l.unit l.titles)
    ≡ cyclic_from (pairs l.reach) 0 l.titles

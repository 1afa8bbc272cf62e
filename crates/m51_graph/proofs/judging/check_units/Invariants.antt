use Rattle.m51_graph.proofs.Common.{◌≡◌, drop, pairs, first_under_two}
use Rattle.m51_graph.proofs.judging.check_units.Given as goal

abbrev pub invariant-loop-unit : goal.invariant-loop-unit
invariant-loop-unit l =
    first_under_two (pairs l.reach) l.parts.roots l.parts.own l.unit (drop l.unit l.titles)
    ≡ first_under_two (pairs l.reach) l.parts.roots l.parts.own 0 l.titles

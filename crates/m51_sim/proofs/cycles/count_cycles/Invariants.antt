use Rattle.m51_sim.proofs.Common.{◌≡◌, inputs_of, with_extra}
use Rattle.m51_sim.specs.Cycles.{Counts, cycles_passed}
use Rattle.m51_sim.proofs.cycles.count_cycles.Given as goal

abbrev pub invariant-loop : goal.invariant-loop
invariant-loop l = record {
  passed : l.passing ≡ cycles_passed (with_extra l.extra (inputs_of l.script)) l.counter l.fn.passing;
  counts : Counts l.script l.passing;
}

use Rattle.m51_sim.proofs.Common.{◌≡◌, inputs_of, with_extra}
use Rattle.m51_sim.specs.Cycles.{cycles_passed}
use Rattle.m51_sim.proofs.cycles.pass_each.Given as goal

abbrev pub invariant-loop : goal.invariant-loop
invariant-loop l = l.passing ≡ cycles_passed (with_extra l.extra (inputs_of l.script)) l.counter l.fn.passing

use Rattle.m51_sim.proofs.Fitting.{idle_commits}
use Rattle.m51_sim.proofs.judging.idle_step.Goals as goal

pub returns-clause-may : goal.returns-clause-may
returns-clause-may c = rw c.idle.ensures (idle_commits c.args.monitor.now c.args.cpu.now c.requires)

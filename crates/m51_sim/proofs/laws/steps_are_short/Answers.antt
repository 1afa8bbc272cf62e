use Rattle.m51_sim.proofs.StepCycles.{steps_short}
use Rattle.m51_sim.proofs.laws.steps_are_short.Goals as goal

pub returns : goal.returns
returns c = steps_short

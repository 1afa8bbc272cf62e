use Rattle.m51_sim.proofs.FurtherFrames.{one_is_few}
use Rattle.m51_cases.proofs.sim.counts_after.Goals as goal

pub step_on-requires : goal.step_on-requires
step_on-requires c = one_is_few _

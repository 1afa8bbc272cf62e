use Rattle.m51_sim.proofs.Tellings.{front_of_stop}
use Rattle.m51_chain.proofs.carrying.write.Goals as goal

pub returns-in-Err-clause-written : goal.returns-in-Err-clause-written
returns-in-Err-clause-written g c = (c.in-Err.ensures.cause.failed, front_of_stop _ _ _ c.in-Err.ensures.short)

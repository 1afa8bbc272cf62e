use Rattle.m51_sim.proofs.Tellings.{front_of_stop}
use Rattle.m51_cells.proofs.Fronts.{front_more}
use Rattle.m51_chain.proofs.Carries.{written_after}
use Rattle.m51_chain.proofs.carrying.report.Goals as goal

pub returns-in-Err-clause-written : goal.returns-in-Err-clause-written
returns-in-Err-clause-written g c =
    (c.in-Err.ensures.cause.failed, front_more _ _ _ _ (front_of_stop _ _ _ c.in-Err.ensures.short))

pub returns-in-Ok-clause-written : goal.returns-in-Ok-clause-written
returns-in-Ok-clause-written g c =
    written_after _ _ _ _ _ _ _ c.in-Ok.ensures.whole c.in-Ok.ensures.cause.later c.end.ensures.written

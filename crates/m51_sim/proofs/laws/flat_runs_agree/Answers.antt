use Rattle.m51_sim.proofs.Agreeing.{filled_has}
use Rattle.m51_sim.proofs.Keeping as lemmas
use Rattle.m51_sim.proofs.laws.flat_runs_agree.Goals as goal

pub returns-clause-agree : goal.returns-clause-agree
returns-clause-agree c = lemmas.flat_runs_agree

pub returns-clause-filled : goal.returns-clause-filled
returns-clause-filled c = filled_has

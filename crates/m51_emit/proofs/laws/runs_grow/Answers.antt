use Rattle.m51_emit.proofs.GrownRuns as lemmas
use Rattle.m51_emit.proofs.laws.runs_grow.Goals as goal

pub returns : goal.returns
returns c = lemmas.runs_grow

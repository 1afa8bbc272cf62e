use Rattle.m51_emit.proofs.GrownRuns as lemmas
use Rattle.m51_emit.proofs.laws.content_grows.Goals as goal

pub returns : goal.returns
returns c = lemmas.gathered_grows

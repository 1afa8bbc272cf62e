use Rattle.m51_emit.proofs.LyingContent as lemmas
use Rattle.m51_emit.proofs.laws.references_lie.Goals as goal

pub returns : goal.returns
returns c = lemmas.references_lie

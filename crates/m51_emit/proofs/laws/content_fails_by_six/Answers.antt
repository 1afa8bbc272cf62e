use Rattle.m51_emit.proofs.FilledLines as lemmas
use Rattle.m51_emit.proofs.laws.content_fails_by_six.Goals as goal

pub returns : goal.returns
returns c = lemmas.content_fails_by_six

use Rattle.m51_emit.proofs.FilledLines as lemmas
use Rattle.m51_emit.proofs.laws.words_fill.Goals as goal

pub returns : goal.returns
returns c = lemmas.words_fill

use Rattle.m51_emit.proofs.FilledLines as lemmas
use Rattle.m51_emit.proofs.laws.instructions_are_coded.Goals as goal

pub returns : goal.returns
returns c = lemmas.instructions_are_coded

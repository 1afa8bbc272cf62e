use Rattle.m51_flat.proofs.Done as lemmas
use Rattle.m51_flat.proofs.laws.effects_are_done.Goals as goal

pub returns : goal.returns
returns c = lemmas.effects_are_done

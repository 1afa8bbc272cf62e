use Rattle.m51_flat.proofs.BitLaws as lemmas
use Rattle.m51_flat.proofs.laws.bits_are_turned.Goals as goal

pub returns : goal.returns
returns c = lemmas.bits_are_turned

use Rattle.m51_flat.proofs.BitLaws as lemmas
use Rattle.m51_flat.proofs.laws.flags_are_written.Goals as goal

pub returns : goal.returns
returns c = lemmas.flags_are_written

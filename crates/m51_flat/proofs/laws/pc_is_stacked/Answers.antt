use Rattle.m51_flat.proofs.Devices as lemmas
use Rattle.m51_flat.proofs.laws.pc_is_stacked.Goals as goal

pub returns : goal.returns
returns c = lemmas.pc_is_stacked

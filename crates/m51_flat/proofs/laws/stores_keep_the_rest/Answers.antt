use Rattle.m51_flat.proofs.Devices as lemmas
use Rattle.m51_flat.proofs.laws.stores_keep_the_rest.Goals as goal

pub returns : goal.returns
returns c = lemmas.stores_keep_the_rest

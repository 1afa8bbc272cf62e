use Rattle.m51_party.proofs.One.{exactly_one}
use Rattle.m51_party.proofs.laws.exactly_one_family.Goals as goal

pub returns : goal.returns
returns c = exactly_one

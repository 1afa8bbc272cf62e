use Rattle.m51_build_proof.proofs.Promised.{headline}
use Rattle.m51_build_proof.proofs.laws.headline.Goals as goal

pub returns : goal.returns
returns c = headline

use Rattle.m51_build_proof.proofs.Reported.{build_has_weight}
use Rattle.m51_build_proof.proofs.laws.build_has_weight.Goals as goal

pub returns : goal.returns
returns c = build_has_weight

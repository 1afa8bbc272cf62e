use Rattle.m51_build_proof.proofs.Reported.{build_prints_least}
use Rattle.m51_build_proof.proofs.laws.build_prints_least_overlay.Goals as goal

pub returns : goal.returns
returns c = build_prints_least

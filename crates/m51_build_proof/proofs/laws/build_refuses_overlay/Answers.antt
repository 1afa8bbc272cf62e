use Rattle.m51_build_proof.proofs.Verdicts.{l12_only_at_placing}
use Rattle.m51_build_proof.proofs.Reported.{build_refuses_overlay}
use Rattle.m51_build_proof.proofs.laws.build_refuses_overlay.Goals as goal

pub returns-clause-exact : goal.returns-clause-exact
returns-clause-exact c = build_refuses_overlay

pub returns-clause-only : goal.returns-clause-only
returns-clause-only c = l12_only_at_placing

use Rattle.m51_build_proof.proofs.Reported.{printed}
use Rattle.m51_build_proof.proofs.laws.printed_figure_is_weight.Goals as goal

pub returns : goal.returns
returns c = printed

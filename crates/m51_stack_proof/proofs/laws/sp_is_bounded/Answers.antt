use Rattle.m51_stack_proof.proofs.Bounded.{sp_is_bounded}
use Rattle.m51_stack_proof.proofs.laws.sp_is_bounded.Goals as goal

pub returns : goal.returns
returns c = sp_is_bounded

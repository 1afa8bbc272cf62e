use Rattle.m51_stackbound.proofs.Unique.{total_is_sum}
use Rattle.m51_stackbound.proofs.laws.total_is_sum_of_depths.Goals as goal

pub returns : goal.returns
returns c = total_is_sum

use Rattle.m51_place.proofs.Ranks.{in_order}
use Rattle.m51_place.proofs.laws.order_rises.Goals as goal

pub returns : goal.returns
returns c = in_order

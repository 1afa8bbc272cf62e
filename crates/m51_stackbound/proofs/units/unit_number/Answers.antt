use Rattle.m51_stackbound.proofs.Common.{ap, is_some}
use Rattle.m51_stackbound.proofs.units.unit_number.Goals as goal

pub unwrap-requires : goal.unwrap-requires
unwrap-requires c = ap is_some (c.unit_at.ensures.only c.requires.0 c.requires.1)

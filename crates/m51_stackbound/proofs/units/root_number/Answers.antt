use Rattle.m51_stackbound.proofs.Common.{ap, is_some}
use Rattle.m51_stackbound.proofs.units.root_number.Goals as goal

pub unwrap-requires : goal.unwrap-requires
unwrap-requires c = ap is_some (c.root.ensures.only c.requires.0 c.requires.1)

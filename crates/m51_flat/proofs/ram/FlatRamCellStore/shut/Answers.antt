use Rattle.m51_flat.proofs.Flat.{none_shut}
use Rattle.m51_flat.proofs.ram.FlatRamCellStore.shut.Goals as goal

pub returns : goal.returns
returns c = none_shut c.args.«_put».now

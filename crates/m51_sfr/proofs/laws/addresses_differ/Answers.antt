use Rattle.m51_sfr.proofs.RowLaws.{addresses_differ}
use Rattle.m51_sfr.proofs.laws.addresses_differ.Goals as goal

pub returns : goal.returns
returns c = addresses_differ

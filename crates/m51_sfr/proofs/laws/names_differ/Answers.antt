use Rattle.m51_sfr.proofs.RowLaws.{names_differ}
use Rattle.m51_sfr.proofs.laws.names_differ.Goals as goal

pub returns : goal.returns
returns c = names_differ

use Rattle.m51_predefined.proofs.RowLaws.{names_are_free}
use Rattle.m51_predefined.proofs.laws.names_are_free.Goals as goal

pub returns : goal.returns
returns c = names_are_free

use Rattle.m51_sfr.proofs.TableLaw.{table_is_the_manuals}
use Rattle.m51_sfr.proofs.laws.table_is_the_manuals.Goals as goal

pub returns : goal.returns
returns c = table_is_the_manuals

use Rattle.m51_stmt.proofs.ReadStatements as lemmas
use Rattle.m51_stmt.proofs.laws.printed_reads_back.Goals as goal

pub returns : goal.returns
returns c = lemmas.printed_reads_back

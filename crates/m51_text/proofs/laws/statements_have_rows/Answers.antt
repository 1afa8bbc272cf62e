use Rattle.m51_text.proofs.StatementRows as lemmas
use Rattle.m51_text.proofs.laws.statements_have_rows.Goals as goal

pub returns : goal.returns
returns c = lemmas.statements_have_rows

use Rattle.m51_encode.proofs.FormRows as lemmas
use Rattle.m51_encode.proofs.laws.forms_have_rows.Goals as goal

pub returns : goal.returns
returns c = lemmas.forms_have_rows

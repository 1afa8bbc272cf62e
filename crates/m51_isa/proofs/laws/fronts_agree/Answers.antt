use Rattle.m51_isa.proofs.Codes as lemmas
use Rattle.m51_isa.proofs.laws.fronts_agree.Goals as goal

pub returns : goal.returns
returns c = lemmas.fronts_agree

use Rattle.m51_asm.proofs
use proofs.ValidParts.{answers_are_valid}
use proofs.valid_laws.answers_are_valid.Goals as goal

pub returns : goal.returns
returns c = answers_are_valid

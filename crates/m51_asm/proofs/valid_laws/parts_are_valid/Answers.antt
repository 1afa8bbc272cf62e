use Rattle.m51_asm.proofs
use proofs.ValidParts.{parts_are_valid}
use proofs.valid_laws.parts_are_valid.Goals as goal

pub returns : goal.returns
returns c = parts_are_valid

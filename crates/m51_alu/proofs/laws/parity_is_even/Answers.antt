use Rattle.m51_alu.proofs.Ones.{parity_evens}
use Rattle.m51_alu.proofs.laws.parity_is_even.Goals as goal

pub returns : goal.returns
returns c = parity_evens

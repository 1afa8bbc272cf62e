use Rattle.m51_predefined.proofs.ByteLaws.{bytes_have_bits}
use Rattle.m51_predefined.proofs.laws.bytes_have_bits.Goals as goal

pub returns : goal.returns
returns c = bytes_have_bits

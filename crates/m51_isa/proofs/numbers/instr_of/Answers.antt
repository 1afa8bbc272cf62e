use Rattle.std.proofs.Common.{refl}
use Rattle.m51_isa.proofs.numbers.instr_of.Goals as goal

pub returns-in-2 : goal.returns-in-2
returns-in-2 c = rw (c.in-2.is, c.low-in-2.ensures, c.low-in-2-2.ensures) refl

use Rattle.std.proofs.Common.{length}
use Rattle.m51_stmt.proofs.lack.+operand_in.Given as goal

abbrev pub decreases-operand_in : goal.decreases-operand_in
decreases-operand_in l = length l.symbols.now

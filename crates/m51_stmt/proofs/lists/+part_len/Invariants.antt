use Rattle.std.proofs.Common.{length}
use Rattle.m51_stmt.proofs.lists.+part_len.Given as goal

abbrev pub decreases-part_len : goal.decreases-part_len
decreases-part_len l = length l.symbols.now

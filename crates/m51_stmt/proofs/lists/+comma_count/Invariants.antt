use Rattle.std.proofs.Common.{length}
use Rattle.m51_stmt.proofs.lists.+comma_count.Given as goal

abbrev pub decreases-comma_count : goal.decreases-comma_count
decreases-comma_count l = length l.symbols.now

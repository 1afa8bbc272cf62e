use Rattle.std.proofs.Common.{length}
use Rattle.m51_stmt.proofs.lack.+lacks_after.Given as goal

abbrev pub decreases-lacks_after : goal.decreases-lacks_after
decreases-lacks_after l = length l.symbols.now

use Rattle.std.proofs.Common.{length}
use Rattle.m51_stmt.proofs.lists.+items.Given as goal

abbrev pub decreases-items : goal.decreases-items
decreases-items l = length l.symbols.now

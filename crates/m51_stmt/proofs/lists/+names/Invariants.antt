use Rattle.std.proofs.Common.{length}
use Rattle.m51_stmt.proofs.lists.+names.Given as goal

abbrev pub decreases-names : goal.decreases-names
decreases-names l = length l.symbols.now

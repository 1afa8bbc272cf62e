use Rattle.std.proofs.Common.{length}
use Rattle.m51_expr.proofs.symbol.+characters.Given as goal

abbrev pub decreases-characters : goal.decreases-characters
decreases-characters l = length l.text.now

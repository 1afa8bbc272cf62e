use Rattle.std.proofs.Common.{length}
use Rattle.m51_stmt.proofs.externs.+externs_from.Given as goal

abbrev pub decreases-externs_from : goal.decreases-externs_from
decreases-externs_from l = length l.symbols.now

use Rattle.std.proofs.Common.{length}
use Rattle.m51_stmt.proofs.printing.+put_externs.Given as goal

abbrev pub decreases-put_externs : goal.decreases-put_externs
decreases-put_externs l = length l.externs.now

use Rattle.std.proofs.Common.{length}
use Rattle.m51_stmt.proofs.externs.+defines_reserved.Given as goal

abbrev pub decreases-defines_reserved : goal.decreases-defines_reserved
decreases-defines_reserved l = length l.symbols.now

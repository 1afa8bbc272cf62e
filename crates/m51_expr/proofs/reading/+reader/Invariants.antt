use Rattle.std.proofs.Common.{◌+◌, ◌-◌, ◌*◌, length}
use Rattle.m51_expr.specs.Reading.{enough}
use Rattle.m51_expr.proofs.reading.+reader.Given as goal

abbrev pub decreases-operators_after : goal.decreases-operators_after
decreases-operators_after l = 2 * enough (length l.symbols.now - l.at) 8

abbrev pub decreases-operand : goal.decreases-operand
decreases-operand l = 2 * enough (length l.symbols.now - l.at) 9

abbrev pub decreases-read : goal.decreases-read
decreases-read l = 2 * enough (length l.symbols.now - l.at) l.rank + 1

abbrev pub decreases-plain : goal.decreases-plain
decreases-plain l = 2 * enough (length l.symbols.now - l.at) l.rank

abbrev pub decreases-looser : goal.decreases-looser
decreases-looser l = 2 * enough (length l.symbols.now - l.at) l.rank

use Rattle.m51_stmt.proofs.LinesRead.{line_sound, complete}
use Rattle.m51_stmt.proofs.reading.read_line.Goals as goal

pub returns-clause-sound : goal.returns-clause-sound
returns-clause-sound c = line_sound c.short_or_long.result c.args.line.now c.short_or_long.ensures

pub returns-clause-complete : goal.returns-clause-complete
returns-clause-complete c = λ s few is. complete c.short_or_long.result c.args.line.now s few is c.short_or_long.ensures

use Rattle.std.proofs.Common.{length}
use Rattle.m51_stmt.proofs.printing.+put_characters.Given as goal

abbrev pub decreases-put_characters : goal.decreases-put_characters
decreases-put_characters l = length l.characters.now

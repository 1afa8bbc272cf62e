use Rattle.std.proofs.Common.{length}
use Rattle.m51_lex.proofs.lexeme.+text_len.Given as goal

abbrev pub decreases-text_len : goal.decreases-text_len
decreases-text_len l = length l.rest.now

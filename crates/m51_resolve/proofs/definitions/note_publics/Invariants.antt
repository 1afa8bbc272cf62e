use Rattle.m51_resolve.proofs.Tables.{NotesFrom}
use Rattle.m51_resolve.proofs.definitions.note_publics.Given as goal

abbrev pub invariant-loop-index : goal.invariant-loop-index
invariant-loop-index l = NotesFrom (λ name. Unit {0}) l.fn.table.entries l.number l.publics l.index l.table.entries

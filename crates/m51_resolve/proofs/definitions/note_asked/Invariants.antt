use Rattle.m51_resolve.proofs.Common.{◌≡◌, true, wanted_in}
use Rattle.m51_resolve.proofs.Tables.{NotesFrom}
use Rattle.m51_resolve.proofs.definitions.note_asked.Given as goal

abbrev pub invariant-loop-index : goal.invariant-loop-index
invariant-loop-index l =
    NotesFrom (λ name. wanted_in l.asked.keys name ≡ true) l.fn.table.entries l.number l.publics l.index l.table.entries

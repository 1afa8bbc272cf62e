use Rattle.m51_chain.proofs.Common.{drop, object_edits, ◌≡◌}
use Rattle.m51_chain.proofs.Edits.{edits_before}
use Rattle.m51_chain.proofs.editing.object_edits.Given as goal

abbrev pub invariant-loop-at : goal.invariant-loop-at
invariant-loop-at l =
    edits_before l.edits (object_edits l.operation (drop l.at l.names) (drop l.at l.files))
    ≡ object_edits l.operation l.names l.files

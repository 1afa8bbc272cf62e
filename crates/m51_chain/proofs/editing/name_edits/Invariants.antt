use Rattle.m51_chain.proofs.Common.{drop, map, ◌++◌, ◌≡◌}
use Rattle.m51_chain.specs.Edits.{name_edit}
use Rattle.m51_chain.proofs.editing.name_edits.Given as goal

abbrev pub invariant-loop-name : goal.invariant-loop-name
invariant-loop-name l = l.edits ++ map (name_edit l.operation) (drop l.name-index l.names)
    ≡ map (name_edit l.operation) l.names

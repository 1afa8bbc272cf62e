use Rattle.m51_resolve.proofs.Common.{◌≡◌, map, take, definition_in}
use Rattle.m51_resolve.specs.WorkNames.{resolving_by}
use Rattle.m51_resolve.proofs.publics.resolving_all.Given as goal

abbrev pub invariant-loop-external : goal.invariant-loop-external
invariant-loop-external l = l.found.items
    ≡ map (resolving_by (definition_in l.definitions.entries)) (take l.external-index l.externals)

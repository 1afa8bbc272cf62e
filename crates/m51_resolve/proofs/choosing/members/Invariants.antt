use Rattle.m51_resolve.proofs.Common.{◌≡◌, ◌++◌, map, take}
use Rattle.m51_resolve.specs.Choice.{members_of}
use Rattle.m51_resolve.proofs.choosing.members.Given as goal

abbrev pub invariant-loop-library : goal.invariant-loop-library
invariant-loop-library l = map (λ m. m.now) l.members.items ≡ members_of (take l.library-index l.libraries)

abbrev pub invariant-loop-member : goal.invariant-loop-member
invariant-loop-member l = map (λ m. m.now) l.members.items
    ≡ members_of (take l.library-index l.libraries) ++ take l.member-index l.member-items

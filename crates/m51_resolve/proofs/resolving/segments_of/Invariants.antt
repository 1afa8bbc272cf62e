use Rattle.m51_resolve.proofs.Common.{◌≡◌, map, take}
use Rattle.m51_resolve.specs.WorkJoining.{joined_as}
use Rattle.m51_resolve.proofs.resolving.segments_of.Given as goal

abbrev pub invariant-loop-joined : goal.invariant-loop-joined
invariant-loop-joined l = l.segments.items ≡ map joined_as (take l.joined-index l.growing)

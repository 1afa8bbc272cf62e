use Rattle.m51_resolve.proofs.Common.{◌≡◌}
use Rattle.m51_resolve.specs.WorkJoining.{numbers_from}
use Rattle.m51_resolve.proofs.JoinSteps.{AreJoined}
use Rattle.m51_resolve.proofs.joining.join_all.Given as goal

abbrev pub invariant-loop-segment : goal.invariant-loop-segment
invariant-loop-segment l = AreJoined l.segments l.segment-index l.growing.items l.parts.items
    × (l.numbers.entries ≡ numbers_from 0 l.growing.items)

use Rattle.m51_place.proofs.Common.{drop, ranked_from, ◌++◌, ◌≡◌}
use Rattle.m51_place.proofs.ordering.ranked_segments.Given as goal

abbrev pub invariant-loop-number : goal.invariant-loop-number
invariant-loop-number l = l.ranked.items ++ ranked_from l.graph l.controls l.number (drop l.number l.segments)
    ≡ ranked_from l.graph l.controls 0 l.segments

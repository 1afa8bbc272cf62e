use Rattle.m51_place.proofs.Common.{drop, owner_pairs, ◌++◌, ◌≡◌}
use Rattle.m51_place.proofs.layouts.owner_pairs.Given as goal

abbrev pub invariant-loop-index : goal.invariant-loop-index
invariant-loop-index l = l.pairs.items ++ owner_pairs l.graph l.index (drop l.index l.located)
    ≡ owner_pairs l.graph 0 l.located

use Rattle.m51_place.proofs.Common.{edge_test, filter, pairs_with, range_with_len, ◌++◌, ◌≡◌}
use Rattle.m51_place.proofs.layouts.add_callers.Given as goal

abbrev pub invariant-loop-caller : goal.invariant-loop-caller
invariant-loop-caller l = l.pairs.items ≡ l.fn.pairs.items ++ pairs_with l.index
    (filter (λ caller. edge_test l.graph.edges caller l.unit) (range_with_len 0 l.caller))

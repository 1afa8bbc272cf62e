use Rattle.m51_place.proofs.Common.{drop, ordered_names, ◌++◌, ◌≡◌}
use Rattle.m51_place.proofs.naming.ordered_names.Given as goal

abbrev pub invariant-loop-line : goal.invariant-loop-line
invariant-loop-line l = l.names.items ++ ordered_names (drop l.line-index l.controls) l.class
    ≡ ordered_names l.controls l.class

use Rattle.m51_place.proofs.Common.{All, IsNumbered, drop, place_after, ◌≡◌}
use Rattle.m51_place.proofs.placing.place_after.Given as goal

abbrev pub invariant-loop-ranked : goal.invariant-loop-ranked
invariant-loop-ranked l = record {
  numbered : All (IsNumbered l.graph) l.located.items;
  goes_on : place_after l.graph l.located.items (drop l.ranked-index l.order)
      ≡ place_after l.graph l.fn.earlier.items l.order;
}

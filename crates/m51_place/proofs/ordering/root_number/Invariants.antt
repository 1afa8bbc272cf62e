use Rattle.m51_place.proofs.Common.{AreBits, drop, leads, lies_under, position_or_len, root_number, vectors, ◌+◌, ◌≡◌}
use Rattle.m51_place.proofs.ordering.root_number.Given as goal

abbrev pub invariant-loop-index : goal.invariant-loop-index
invariant-loop-index l = record {
  bits : AreBits l.graph l.unit (drop l.index vectors) l.bits;
  passed : l.index + position_or_len (λ vector. lies_under (leads l.graph.edges) l.graph.roots vector l.unit)
      (drop l.index vectors) ≡ root_number l.graph l.unit;
}

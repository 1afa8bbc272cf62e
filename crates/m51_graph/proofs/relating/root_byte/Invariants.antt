use Rattle.m51_graph.proofs.Common.{vectors, pairs, lies_under, AddsBits}
use Rattle.m51_graph.proofs.relating.root_byte.Given as goal

abbrev pub invariant-loop-vector : goal.invariant-loop-vector
invariant-loop-vector l =
    AddsBits (λ vector. lies_under (pairs l.reach) l.roots vector l.unit) vectors l.vector-index l.bits l.weight

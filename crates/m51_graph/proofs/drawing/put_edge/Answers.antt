use Rattle.m51_graph.proofs.drawing.put_edge.Goals as goal

pub returns-in-Some-clause-pairs : goal.returns-in-Some-clause-pairs
returns-in-Some-clause-pairs c = λ u v. rw c.in-Some.is (λ i. c.put.ensures.pairs i u v)

use Rattle.m51_monitor.proofs.Finding.{same_root_found}
use Rattle.m51_monitor.proofs.Framing.{found_root}
use Rattle.m51_flat.specs.Vectors.{vector_of}
use Rattle.m51_monitor.proofs.judging.root_wanted.Goals as goal

pub returns-in-Vector-clause-found : goal.returns-in-Vector-clause-found
returns-in-Vector-clause-found c =
    let some = rw c.vector.ensures at c.root.ensures.some in
    let only = rw c.vector.ensures at c.root.ensures.only in
    rw c.in-Vector.is (found_root c.args.layout.now (vector_of c.in-Vector.source) c.root.result some only)

pub returns-in-Vector-clause-value : goal.returns-in-Vector-clause-value
returns-in-Vector-clause-value c =
    let some = rw c.vector.ensures at c.root.ensures.some in
    let only = rw c.vector.ensures at c.root.ensures.only in
    rw c.in-Vector.is (same_root_found c.args.layout.now c.in-Vector.source c.root.result some only)

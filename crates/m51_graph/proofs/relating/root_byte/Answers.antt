use Rattle.m51_graph.proofs.Common.{ℕ, Bool, sym, ◌∙◌, vectors, pairs, lies_under}
use Rattle.m51_graph.proofs.Relations.{adds_set, adds_clear}
use Rattle.m51_graph.proofs.relating.root_byte.Goals.{then-lies_under, else-lies_under}
use Rattle.m51_graph.proofs.relating.root_byte.Goals as goal

pub loop-vector-preserved : goal.loop-vector-preserved
loop-vector-preserved c =
    let test : ℕ → Bool = λ vector. lies_under (pairs c.args.reach.now) c.args.roots.now vector c.args.unit in
    let l = c.loop-vector in
    elim c.if-lies_under.branch [
      | then-lies_under w ↦ rw w.bits-is
          (adds_set test vectors l.vector-index l.bits l.weight 0 c.loop-vector-test.true l.invariant
          (sym c.lies_under.ensures ∙ w.if-lies_under.true))
      | else-lies_under w ↦ rw w.bits-is
          (adds_clear test vectors l.vector-index l.bits l.weight 0 c.loop-vector-test.true l.invariant
          (sym c.lies_under.ensures ∙ w.if-lies_under.false))
    ]

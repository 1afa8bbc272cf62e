use Rattle.m51_graph.proofs.Common.{◌∙◌, sym, ap, arith}
use Rattle.m51_relations.specs.Rows.{with_pair}
use Rattle.m51_graph.proofs.Climbing.{ends_within}
use Rattle.m51_graph.proofs.Closed.{edge_more}
use Rattle.m51_graph.proofs.reaching.edge_rows.Goals as goal

pub put-requires : goal.put-requires
put-requires c =
    let ends = ends_within _ c.loop-from.from-index _ c.requires.within c.loop-from-test.true in
    record {
      from = omega (arith, ends.from, c.loop-from.invariant.count);
      to = omega (arith, ends.to, c.loop-from.invariant.count);
    }

pub loop-from-preserved : goal.loop-from-preserved
loop-from-preserved c = record {
  count = c.put.ensures.count ∙ c.loop-from.invariant.count;
  pairs = c.put.ensures.pairs ∙ ap (with_pair _ _) c.loop-from.invariant.pairs
      ∙ sym (edge_more c.args.edges.now c.loop-from.from-index c.loop-from-test.true);
}

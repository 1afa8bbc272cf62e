use Rattle.m51_graph.proofs.Common.{◌≡◌, ◌<◌, ◌+◌, ◌||◌, ℕ, Bool, List, Option, length, take, get_or, ap, ◌∙◌, arith}
use Rattle.m51_graph.proofs.Common.{list_any, edge_named, is_edge, pairs}
use Rattle.std.proofs.lemmas.List.Folds.{list_any_more}
use Rattle.m51_graph.proofs.Within.{named_within}
use Rattle.m51_graph.proofs.drawing.put_named.Goals as goal

-- one more name
names_more : (test : List ℕ → Bool) (names : List (List ℕ)) (i : ℕ) (d : List ℕ) (old now new : Bool)
    → i < length names → new ≡ (test (get_or names i d) || now) → now ≡ (old || list_any test (take i names))
    → new ≡ (old || list_any test (take (i + 1) names))
names_more test names i d old now new below is before = grind (arith, list_any_more test names i d below)

pub put_edge-requires : goal.put_edge-requires
put_edge-requires c =
    let titles : List (List ℕ) = c.args.titles.now in
    let name : List ℕ = c.name-item.result in
    rw (c.edge_named.ensures, c.loop-name.invariant.count, c.requires) (named_within titles c.args.from.now name)

pub loop-name-preserved : goal.loop-name-preserved
loop-name-preserved c =
    let titles : List (List ℕ) = c.args.titles.now in
    let from : List ℕ = c.args.from.now in
    let name : List ℕ = c.name-item.result in
    record {
      count = c.put_edge.ensures.count ∙ c.loop-name.invariant.count;
      pairs = λ u v.
          names_more
          (λ (n : List ℕ). is_edge (u, v) (edge_named titles from n)) c.args.names.now c.loop-name.name-index name
          (pairs c.args.set.now u v) (pairs c.loop-name.set u v) (pairs c.put_edge.new.set u v) c.loop-name-test.true
          (c.put_edge.ensures.pairs u v
          ∙ ap (λ (found : Option (ℕ × ℕ)). is_edge (u, v) found || pairs c.loop-name.set u v)
          (c.edge_named.ensures ∙ ap (λ (n : List ℕ). edge_named titles from n) c.name-item.is))
          (c.loop-name.invariant.pairs u v);
    }

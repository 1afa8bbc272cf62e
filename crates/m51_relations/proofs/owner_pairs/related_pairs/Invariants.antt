use Rattle.std.proofs.Common.{◌≡◌, ◌<◌, ◌≤◌, ℕ, false}
use Rattle.m51_relations.specs.OwnerPairs.{related_by}
use Rattle.m51_relations.specs.Rows.{pairs}
use Rattle.m51_relations.proofs.owner_pairs.related_pairs.Given as goal

abbrev pub invariant-loop-unit : goal.invariant-loop-unit
invariant-loop-unit l = record {
  count : l.set.count ≡ l.reach.count;
  done : (u v : ℕ) → u < l.unit → v < l.reach.count → pairs l.set u v ≡ related_by (pairs l.reach) l.under v u;
  rest : (u v : ℕ) → l.unit ≤ u → pairs l.set u v ≡ false;
}

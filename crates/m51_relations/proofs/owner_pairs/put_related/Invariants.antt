use Rattle.std.proofs.Common.{◌≡◌, ◌≢◌, ◌<◌, ◌≤◌, ℕ, false}
use Rattle.m51_relations.specs.OwnerPairs.{related_by}
use Rattle.m51_relations.specs.Rows.{pairs}
use Rattle.m51_relations.proofs.owner_pairs.put_related.Given as goal

abbrev pub invariant-loop-other : goal.invariant-loop-other
invariant-loop-other l = record {
  count : l.set.count ≡ l.fn.set.count;
  others : (u v : ℕ) → u ≢ l.unit → pairs l.set u v ≡ pairs l.fn.set u v;
  done : (v : ℕ) → v < l.other → pairs l.set l.unit v ≡ related_by (pairs l.reach) l.under v l.unit;
  rest : (v : ℕ) → l.other ≤ v → pairs l.set l.unit v ≡ false;
}

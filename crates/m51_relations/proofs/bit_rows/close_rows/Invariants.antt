use Rattle.std.proofs.Common.{◌≡◌, length}
use Rattle.m51_relations.specs.Rows.{AreRows, closed_below, pair_at}
use Rattle.m51_relations.proofs.bit_rows.close_rows.Given as goal

abbrev pub invariant-loop-k : goal.invariant-loop-k
invariant-loop-k l = record {
  rows : AreRows (length l.fn.rows) l.rows;
  closed : pair_at l.rows ≡ closed_below l.k (pair_at l.fn.rows);
}

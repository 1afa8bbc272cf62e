use Rattle.std.proofs.Common.{◌≡◌, ◌<◌, ℕ, length}
use Rattle.m51_relations.specs.Bits.{words_for}
use Rattle.m51_relations.specs.Rows.{AreWide, pair_at, passed_below}
use Rattle.m51_relations.proofs.bit_rows.pass_all.Given as goal

abbrev pub invariant-loop-k : goal.invariant-loop-k
invariant-loop-k l = record {
  len : length l.rows ≡ length l.fn.rows;
  wide : AreWide (words_for (length l.others)) l.rows;
  passed : (u v : ℕ) → u < length l.fn.rows → pair_at l.rows u v
      ≡ passed_below (pair_at l.tests) (pair_at l.others) (pair_at l.fn.rows) l.k u v;
}

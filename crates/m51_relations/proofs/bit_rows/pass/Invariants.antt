use Rattle.std.proofs.Common.{◌≡◌, ◌<◌, ◌≤◌, ◌||◌, ◌&&◌, ℕ, [], length, slice_index_or}
use Rattle.m51_relations.specs.Bits.{bit}
use Rattle.m51_relations.specs.Rows.{AreWide, pair_at}
use Rattle.m51_relations.proofs.bit_rows.pass.Given as goal

abbrev pub invariant-loop-row : goal.invariant-loop-row
invariant-loop-row l = record {
  wide : AreWide (length l.through) l.rows;
  done : (u v : ℕ) → u < l.row-index → pair_at l.rows u v
      ≡ (pair_at l.fn.rows u v || (pair_at l.fn.rows u l.k && bit l.through v));
  rest : (u : ℕ) → l.row-index ≤ u → slice_index_or l.rows u [] ≡ slice_index_or l.fn.rows u [];
}

use Rattle.std.proofs.Common.{◌≡◌, ◌<◌, ◌≤◌, ◌||◌, ◌&&◌, ℕ, [], length, slice_index_or}
use Rattle.m51_relations.specs.Bits.{bit}
use Rattle.m51_relations.specs.Rows.{AreWide, pair_at}
use Rattle.m51_relations.proofs.bit_rows.pass_tested.Given as goal

abbrev pub invariant-loop-u : goal.invariant-loop-u
invariant-loop-u l = record {
  wide : AreWide (length l.through) l.rows;
  done : (u v : ℕ) → u < l.u → pair_at l.rows u v
      ≡ (pair_at l.fn.rows u v || (pair_at l.tests u l.k && bit l.through v));
  rest : (u : ℕ) → l.u ≤ u → slice_index_or l.rows u [] ≡ slice_index_or l.fn.rows u [];
}

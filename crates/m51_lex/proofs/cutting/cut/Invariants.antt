use Rattle.std.proofs.Common.{length, drop, ◌-◌, ◌≡◌, ◌≤◌}
use Rattle.m51_lex.specs.Tokens.{AreSlices, put_front, tokens_at}
use Rattle.m51_lex.proofs.cutting.cut.Given as goal

abbrev pub invariant-loop-at : goal.invariant-loop-at
invariant-loop-at l = record {
  within : l.at ≤ length l.line;
  told : put_front l.out.items (tokens_at 0 l.at (drop l.at l.line)) ≡ tokens_at 0 0 l.line;
  slices : AreSlices 0 l.at l.out.items;
}

abbrev pub decreases-loop-at : goal.decreases-loop-at
decreases-loop-at l = length l.line - l.at

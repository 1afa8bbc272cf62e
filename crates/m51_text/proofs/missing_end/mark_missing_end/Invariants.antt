use Rattle.std.proofs.Common.{◌≡◌}
use Rattle.m51_text.proofs.WholeText.{NoneFrom}
use Rattle.m51_text.proofs.missing_end.mark_missing_end.Given as goal

abbrev pub invariant-loop-at : goal.invariant-loop-at
invariant-loop-at l = record {
  same : l.entries.items ≡ l.initial.entries.items;
  none : NoneFrom l.at l.entries.items;
}

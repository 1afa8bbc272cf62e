use Rattle.std.proofs.Common.{◌≡◌, replicate}
use Rattle.m51_relations.proofs.bit_rows.blank_rows.Given as goal

abbrev pub invariant-loop : goal.invariant-loop
invariant-loop l = l.rows.items ≡ replicate l.counter (replicate l.words 0)

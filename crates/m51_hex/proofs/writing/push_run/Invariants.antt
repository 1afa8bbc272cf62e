use Rattle.std.proofs.Common.{◌≡◌, ◌++◌}
use Rattle.m51_hex.proofs.Spelling.{first_lines}
use Rattle.m51_hex.proofs.writing.push_run.Given as goal

abbrev pub invariant-loop-number : goal.invariant-loop-number
invariant-loop-number l = l.text.items ≡ l.fn.text.items ++ first_lines l.image l.run l.number

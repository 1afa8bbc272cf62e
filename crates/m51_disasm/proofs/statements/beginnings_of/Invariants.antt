use Rattle.std.proofs.Common.{◌≡◌, ◌≤◌, ◌-◌, ◌++◌, vec_len}
use Rattle.m51_disasm.specs.Lines.{beginnings}
use Rattle.m51_disasm.specs.Statements.{statements_from, statements_of}
use Rattle.m51_disasm.proofs.statements.beginnings_of.Given as goal

-- what is done, before what the rest gives, is the whole; a statement has a byte or more
abbrev pub invariant-walk : goal.invariant-walk
invariant-walk l = record {
  done : l.addresses.items ++ beginnings (statements_from l.image l.end 0 l.at (l.end - l.at))
      ≡ beginnings (statements_of l.image l.fn.part);
  few : vec_len l.addresses ≤ l.at;
  low : l.at ≤ 65538;
}

abbrev pub decreases-walk : goal.decreases-walk
decreases-walk l = l.end - l.at

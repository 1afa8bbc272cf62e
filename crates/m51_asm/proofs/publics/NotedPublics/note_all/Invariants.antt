use Rattle.m51_asm.proofs
use proofs.Common.{◌≡◌, ◌||◌, drop, all_public, any_public}
use proofs.publics.NotedPublics.note_all.Given as goal

-- what is found and noted, with what the names that are left give, is the whole
abbrev pub invariant-loop-name : goal.invariant-loop-name
invariant-loop-name l = record {
  again : (l.again || any_public l.self (drop l.name-index l.names)) ≡ any_public l.fn.self l.names;
  noted : all_public l.self (drop l.name-index l.names) ≡ all_public l.fn.self l.names;
}

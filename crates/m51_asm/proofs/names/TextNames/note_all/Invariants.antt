use Rattle.m51_asm.proofs
use proofs.Common.{◌≡◌, ◌||◌, drop, all_noted, any_clash}
use proofs.names.TextNames.note_all.Given as goal

-- what is found and noted, with what the definitions that are left give, is the whole
abbrev pub invariant-loop-name : goal.invariant-loop-name
invariant-loop-name l = record {
  again : (l.again || any_clash l.self l.line (drop l.name-index l.defined)) ≡ any_clash l.fn.self l.line l.defined;
  noted : all_noted l.self l.line (drop l.name-index l.defined) ≡ all_noted l.fn.self l.line l.defined;
}

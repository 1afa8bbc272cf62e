use Rattle.m51_asm.proofs
use proofs.Common.{◌≡◌, ◌++◌, drop, map, external}
use proofs.naming_lines.push_all.Given as goal

-- what is pushed, before what is left, is the whole
abbrev pub invariant-loop-name : goal.invariant-loop-name
invariant-loop-name l =
    l.externals ++ map external (drop l.name-index l.declared) ≡ l.fn.externals ++ map external l.declared

use Rattle.m51_asm.proofs
use proofs.Common.{◌≡◌, drop, map, line_tree}
use Rattle.m51_asm.specs.Fitting.{mod51, mod51_after}
use proofs.predefining.mod51.Given as goal

-- what the lines that are left make of it is what all make of it
abbrev pub invariant-loop-line : goal.invariant-loop-line
invariant-loop-line l = mod51_after l.on (map line_tree (drop l.line-index l.lines)) ≡ mod51 (map line_tree l.lines)

use Rattle.m51_asm.proofs
use proofs.Common.{map, line_tree, Assignment, Fits, IsPassedTo}
use proofs.passing.place_lines.Given as goal

-- the lines so far are passed
abbrev pub invariant-loop-k : goal.invariant-loop-k
invariant-loop-k l = (a : Assignment) → Fits (map line_tree l.lines) a
    → IsPassedTo (map line_tree l.lines) a l.k l.places l.placing

use Rattle.m51_asm.proofs
use proofs.Common.{◌+◌, map, line_tree, Assignment, Fits, AreNumbered}
use Rattle.m51_asm.specs.ObjectSegments.{kept_before}
use proofs.numbering.number_segments.Given as goal

-- the lines so far are numbered
abbrev pub invariant-loop-k : goal.invariant-loop-k
invariant-loop-k l =
    (a : Assignment) → Fits (map line_tree l.lines) a
    → AreNumbered (kept_before (map line_tree l.lines) a l.k) (l.k + 2) l.segments l.numbers

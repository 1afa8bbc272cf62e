use Rattle.m51_asm.proofs
use proofs.Common.{◌≡◌, map, line_tree, Assignment, ArePlaces, is_selected}
use proofs.banks.is_selected.Given as goal

-- whether one of the lines so far selects it
abbrev pub invariant-loop-k : goal.invariant-loop-k
invariant-loop-k l =
    (a : Assignment) → ArePlaces (map line_tree l.lines) a l.places
    → l.selected ≡ is_selected (map line_tree l.lines) a l.bank l.k

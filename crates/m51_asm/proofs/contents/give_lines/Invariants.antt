use Rattle.m51_asm.proofs
use proofs.Common.{◌≡◌, [], map, line_tree, Assignment, Fits, IsGivenTo, gathered_before}
use proofs.contents.give_lines.Given as goal

-- what the lines so far give, and where none of them has a fault, what they give to each segment
abbrev pub invariant-loop-k : goal.invariant-loop-k
invariant-loop-k l =
    let lines = map line_tree l.fn.text.text.lines.now in
    ((a : Assignment) → Fits lines a → IsGivenTo lines a l.k l.contents)
    × (l.contents.faults ≡ [] → (a : Assignment) → Fits lines a → l.gathered.items ≡ gathered_before lines a l.k)

use Rattle.m51_asm.proofs
use proofs.Common.{◌≡◌, drop, map, line_tree, name_in}
use proofs.naming_lines.name_in.Given as goal

-- the lines so far give no name
abbrev pub invariant-loop-line : goal.invariant-loop-line
invariant-loop-line l =
    name_in l.other (map line_tree (drop l.line-index l.lines)) ≡ name_in l.other (map line_tree l.lines)

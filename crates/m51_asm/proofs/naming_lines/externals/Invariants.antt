use Rattle.m51_asm.proofs
use proofs.Common.{◌≡◌, ◌++◌, drop, map, line_tree, externals}
use proofs.naming_lines.externals.Given as goal

-- what is pushed, before what the lines that are left give, is the whole
abbrev pub invariant-loop-line : goal.invariant-loop-line
invariant-loop-line l =
    l.list ++ externals (map line_tree (drop l.line-index l.lines)) ≡ externals (map line_tree l.lines)

use Rattle.m51_asm.proofs
use proofs.Common.{◌≡◌, ◌++◌, drop, map, line_tree, LineTree}
use Rattle.m51_asm.specs.SegmentTable.{declared_entry, declared_entries}
use proofs.segment_table.SegmentTable.declared.Given as goal

-- what is pushed, before the entries of the lines that are left, is the whole
abbrev pub invariant-loop-line : goal.invariant-loop-line
invariant-loop-line l =
    l.entries.items
    ++ map (λ (line : LineTree). declared_entry line.stmt.body) (map line_tree (drop l.line-index l.lines))
    ≡ declared_entries (map line_tree l.lines)

use Rattle.std.proofs.Common.{◌≡◌, ◌++◌, drop, map}
use Rattle.m51_cells.specs.Name.{title_at}
use Rattle.m51_print.specs.Map.{roots_among}
use Rattle.m51_print.proofs.titles.titles_among.Given as goal

abbrev pub invariant-loop-vector : goal.invariant-loop-vector
invariant-loop-vector l = l.titles.items ++ map title_at (roots_among l.bits (drop l.vector-index l.vectors))
    ≡ map title_at (roots_among l.byte l.vectors)

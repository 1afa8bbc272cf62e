use Rattle.std.proofs.Common.{◌≡◌, ◌++◌, map, take}
use Rattle.std.specs.Prelude.{flat_map}
use Rattle.m51_print.specs.Lent.{file_texts}
use Rattle.m51_print.specs.Listing.{listed_row}
use Rattle.m51_print.proofs.sources.push_rows.Given as goal

abbrev pub invariant-loop-row : goal.invariant-loop-row
invariant-loop-row l = l.text.items ≡ l.fn.text.items
    ++ flat_map (listed_row (map file_texts l.files)) (take l.row-index l.rows)

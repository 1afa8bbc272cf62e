-- The lines that a generated program's run ends in.
use Rattle.std.specs.Prelude.{ℕ, List, ◌++◌, codes}
use Rattle.std.specs.Fmt.{decimal}
use Rattle.m51_module.specs.declared.placed.Placed.{Placed}
use Rattle.m51_module.specs.declared.tally.Tally.{Tally}
use Rattle.m51_print.specs.Lines.{titles_of, last_line}

-- how many units there are
abbrev pub units_line : ℕ → List ℕ
units_line units = codes "UNITS " ++ decimal units ++ codes "\n"

-- the bytes that overlaid segments cover, and their sizes added up
abbrev pub sizes_line : ℕ → ℕ → List ℕ
sizes_line overlaid sizes =
    codes "OVERLAID " ++ decimal overlaid ++ codes " OF " ++ decimal sizes ++ codes " BYTES\n"

-- how many entries the run has
abbrev pub entries_line : ℕ → List ℕ
entries_line entries = codes "ENTRIES " ++ decimal entries ++ codes "\n"

-- the last line of the run
abbrev pub tally_line : List Placed → Tally → List ℕ
tally_line placed tally = last_line (titles_of placed) tally.event tally.steps tally.cycle

-- the summary of a run: units, overlaid bytes, entries, and the last line
unfoldable pub summary_of : ℕ → ℕ → ℕ → Tally → List Placed → List ℕ
summary_of units overlaid sizes tally placed =
    units_line units ++ sizes_line overlaid sizes ++ entries_line tally.entries ++ tally_line placed tally

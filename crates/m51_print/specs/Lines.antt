-- The lines of a trace. Titles are those of the placed extents, in order.
use Rattle.std.specs.Prelude.{ℕ, ◌<◌, ◌/◌, ◌%◌, true, false, Bool, List, [], ◌++◌, map, Option, Some, None, codes}
use Rattle.std.specs.List.{slice_index_or}
use Rattle.std.specs.Fmt.{decimal}
use Rattle.m51_cells.specs.declared.cell.Space.{Space}
use Rattle.m51_cells.specs.declared.cell.Space.TheVariants.{Ram, Xram, Code}
use Rattle.m51_cells.specs.declared.event.Event.{Event}
use Rattle.m51_cells.specs.declared.event.Event.TheVariants.{Transfer, Outside, Unwritten, Reserved, PowerDown}
use Rattle.m51_cells.specs.declared.event.Entry.{Entry}
use Rattle.m51_cells.specs.declared.event.Entry.TheVariants.{Port, Sent}
use Rattle.m51_cells.specs.declared.event.Why.{Why}
use Rattle.m51_cells.specs.declared.event.Why.TheVariants.{NoUnit, NoEdge, NotCalled, WrongAddress, SpMoved, SpBelow}
use Rattle.m51_cells.specs.declared.event.Why.TheVariants.{NoHandler, RootBusy, PastEnd}
use Rattle.m51_cells.specs.Cells.{IsDataCell}
use Rattle.m51_cells.specs.Hex.{hex2, hex4}
use Rattle.m51_module.specs.declared.placed.Placed.{Placed}

-- the ninth bit after a blank, where the mode has one
abbrev pub ninth_text : Option Bool → List ℕ
ninth_text None = []
ninth_text (Some false) = codes " 0"
ninth_text (Some true) = codes " 1"

-- the line of an entry
abbrev pub entry_line : Entry → List ℕ
entry_line (Port cycle port value) =
    decimal cycle ++ codes " P" ++ decimal port ++ codes " " ++ hex2 value ++ codes "\n"
entry_line (Sent cycle byte ninth) = decimal cycle ++ codes " TX " ++ hex2 byte ++ ninth_text ninth ++ codes "\n"

-- a reason in capitals
abbrev pub why_text : Why → List ℕ
why_text NoUnit = codes "NOUNIT"
why_text NoEdge = codes "NOEDGE"
why_text NotCalled = codes "NOTCALLED"
why_text WrongAddress = codes "WRONGADDRESS"
why_text SpMoved = codes "SPMOVED"
why_text SpBelow = codes "SPBELOW"
why_text NoHandler = codes "NOHANDLER"
why_text RootBusy = codes "ROOTBUSY"
why_text PastEnd = codes "PASTEND"

-- a cell: the byte and the bit of internal RAM, or the address; never used for program memory, which events do not name
abbrev pub cell_text : Space → ℕ → List ℕ
cell_text Ram at = codes "D:" ++ hex2 (at / 8) ++ codes "." ++ decimal (at % 8)
cell_text Xram at = codes "X:" ++ hex4 at
cell_text Code at = []

-- the titles of placed extents
abbrev pub titles_of : List Placed → List (List ℕ)
titles_of placed = map (λ p. p.title) placed

-- the title of that number
abbrev pub numbered_title : List (List ℕ) → ℕ → List ℕ
numbered_title titles segment = slice_index_or titles segment []

-- an event
abbrev pub event_text : List (List ℕ) → Event → List ℕ
event_text titles (Transfer why leaves target) =
    codes "EVENT V1 " ++ why_text why ++ codes " FROM " ++ hex4 leaves ++ codes " TO " ++ hex4 target
event_text titles (Outside cell at) = codes "EVENT V2 " ++ cell_text cell.space cell.at ++ codes " AT " ++ hex4 at
event_text titles (Unwritten cell segment at) =
    codes "EVENT V3 " ++ cell_text cell.space cell.at ++ codes " IN " ++ numbered_title titles segment
    ++ codes " AT " ++ hex4 at
event_text titles (Reserved at) = codes "EVENT V4 AT " ++ hex4 at
event_text titles (PowerDown at) = codes "EVENT V5 AT " ++ hex4 at

-- what an event names has a text, where `count` extents are placed
abbrev pub HasText : ℕ → Event → Type 0
HasText count (Transfer why leaves target) = Unit {0}
HasText count (Outside cell at) = IsDataCell cell
HasText count (Unwritten cell segment at) = IsDataCell cell × (segment < count)
HasText count (Reserved at) = Unit {0}
HasText count (PowerDown at) = Unit {0}

-- the steps of the run, and the cycles
abbrev pub counts_text : ℕ → ℕ → List ℕ
counts_text steps cycles = decimal steps ++ codes " STEPS " ++ decimal cycles ++ codes " CYCLES\n"

-- the last line of a trace, with the event that stopped the run, if one did
abbrev pub last_line : List (List ℕ) → Option Event → ℕ → ℕ → List ℕ
last_line titles None steps cycles = codes "END " ++ counts_text steps cycles
last_line titles (Some event) steps cycles = event_text titles event ++ codes " AFTER " ++ counts_text steps cycles

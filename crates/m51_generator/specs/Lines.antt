-- The source of a generated program, line by line. Each line ends in LF.
use Rattle.std.specs.Prelude.{ℕ, ◌+◌, ◌==◌, if◌then◌else◌, List, [], ◌∷◌, ◌++◌, codes, flat_map, map}
use Rattle.std.specs.Borrow.{Bor}
use Rattle.std.specs.Fmt.{decimal}
use Rattle.m51_module.specs.declared.source.SourceFile.{SourceFile}
use Rattle.m51_generator.specs.declared.unit.DrawnUnit.{DrawnUnit}
use Rattle.m51_generator.specs.Draws.{drawn}

-- the texts of borrowed lines
abbrev pub lent : List (Bor (List ℕ)) → List (List ℕ)
lent texts = map (λ text. text.now) texts

abbrev pub line : List ℕ → List ℕ
line text = text ++ codes "\n"

-- these lines as a text
unfoldable pub lines_as_text : List (List ℕ) → List ℕ
lines_as_text lines = flat_map line lines

-- the module, and its stack
abbrev pub opening_lines : List (List ℕ)
opening_lines =
    codes "NAME GEN" ∷
    codes "?STACK SEGMENT IDATA" ∷
    codes "RSEG ?STACK" ∷
    codes "DS 64" ∷
    []

-- the beginning of a procedure: the segments of its unit, its local of this size, its label and its first instruction
unfoldable pub entry_lines : List ℕ → List ℕ → ℕ → List ℕ → List (List ℕ)
entry_lines unit local size label =
    (codes "?PR?" ++ unit ++ codes " SEGMENT CODE") ∷
    (codes "?DT?" ++ unit ++ codes " SEGMENT DATA OVERLAYABLE") ∷
    (codes "RSEG ?DT?" ++ unit) ∷
    (local ++ codes ": DS " ++ decimal size) ∷
    (codes "RSEG ?PR?" ++ unit) ∷
    (label ++ codes ": MOV " ++ local ++ codes ",A") ∷
    []

-- a call of the procedure of a unit
abbrev pub call_line : ℕ → List ℕ
call_line number = codes "LCALL F" ++ decimal number

-- the numbers of the units with this parent, ascending, among those from this number on
abbrev pub children_from : ℕ → ℕ → List DrawnUnit → List ℕ
children_from parent number [] = []
children_from parent number (unit ∷ units) =
    if unit.parent == parent then number ∷ children_from parent (number + 1) units
    else children_from parent (number + 1) units

-- the calls of the children of a unit; those of 0 are called by the loop of MAIN
abbrev pub calls : ℕ → List DrawnUnit → List (List ℕ)
calls parent units = map call_line (children_from parent 1 units)

-- the end of the procedure of a unit
unfoldable pub unit_tail : List ℕ → List (List ℕ)
unit_tail local =
    (codes "MOV A," ++ local) ∷
    codes "INC A" ∷
    codes "MOV P1,A" ∷
    codes "RET" ∷
    []

-- the unit of this number and size, among all units: between beginning and end it calls its children
unfoldable pub unit_text : List DrawnUnit → ℕ → ℕ → List ℕ
unit_text units number size =
    lines_as_text
    (entry_lines (codes "U" ++ decimal number) (codes "L" ++ decimal number) size (codes "F" ++ decimal number))
    ++ lines_as_text (calls number units)
    ++ lines_as_text (unit_tail (codes "L" ++ decimal number))

-- the lines of units, of which the first has this number, among all units
abbrev pub units_from : List DrawnUnit → ℕ → List DrawnUnit → List ℕ
units_from all number [] = []
units_from all number (unit ∷ units) = unit_text all number unit.size ++ units_from all (number + 1) units

-- the end of a handler, which counts at a port
unfoldable pub handler_tail : List ℕ → List ℕ → List (List ℕ)
handler_tail local port =
    (codes "INC " ++ port) ∷
    (codes "MOV A," ++ local) ∷
    codes "RETI" ∷
    []

-- a handler: its unit has the name of its label
abbrev pub handler_text : List ℕ → List ℕ → List ℕ → List ℕ
handler_text label local port =
    lines_as_text (entry_lines label local 1 label) ++ lines_as_text (handler_tail local port)

-- the vectors, and MAIN up to its loop
abbrev pub main_lines : List (List ℕ)
main_lines =
    codes "CSEG AT 0" ∷
    codes "LJMP MAIN" ∷
    codes "CSEG AT 0BH" ∷
    codes "LJMP HA" ∷
    codes "CSEG AT 1BH" ∷
    codes "LJMP HB" ∷
    codes "CSEG AT 30H" ∷
    codes "MAIN: MOV SP,#?STACK-1" ∷
    codes "MOV TMOD,#22H" ∷
    codes "MOV TH0,#38H" ∷
    codes "MOV TH1,#64H" ∷
    codes "MOV IP,#8" ∷
    codes "MOV IE,#8AH" ∷
    codes "SETB TR0" ∷
    codes "SETB TR1" ∷
    codes "LOOP: CLR A" ∷
    []

-- the end of the loop and of the source
abbrev pub closing_lines : List (List ℕ)
closing_lines =
    codes "LJMP LOOP" ∷
    codes "END" ∷
    []

-- the text of a program with these units
unfoldable pub program_text : List DrawnUnit → List ℕ
program_text units =
    lines_as_text opening_lines
    ++ units_from units 1 units
    ++ handler_text (codes "HA") (codes "VA") (codes "P0")
    ++ handler_text (codes "HB") (codes "VB") (codes "P2")
    ++ lines_as_text main_lines
    ++ lines_as_text (calls 0 units)
    ++ lines_as_text closing_lines

-- the source with `units` units, drawn from this start
abbrev pub generated : ℕ → ℕ → SourceFile
generated units start = record { name = codes "gen.a51"; bytes = program_text (drawn units start).units }

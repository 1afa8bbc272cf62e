-- The lines of refusals.
use Rattle.std.specs.Prelude.{ℕ, List, [], ◌++◌, codes, flat_map}
use Rattle.std.specs.Fmt.{decimal}
use Rattle.m51_cells.specs.declared.limits.TheConstants.{MOST_FILES, MOST_FILE_BYTES, MOST_CONTROL_LINES}
use Rattle.m51_cells.specs.declared.limits.TheConstants.{MOST_SCRIPT_LINES, MOST_MODULES, MOST_SEGMENTS, MOST_UNITS}
use Rattle.m51_cells.specs.declared.limits.TheConstants.{MOST_MODULE_SEGMENTS, MOST_SOURCE_LINES, MOST_POINTS}
use Rattle.m51_cells.specs.Hex.{hex4}
use Rattle.m51_module.specs.declared.linked.Quantity.{Quantity}
use Rattle.m51_module.specs.declared.linked.Quantity.TheVariants.{Files, Bytes, ControlLines, ScriptLines, Modules}
use Rattle.m51_module.specs.declared.linked.Quantity.TheVariants.{Segments, Units, Parts, Lines, Points}
use Rattle.m51_module.specs.declared.linked.Refusal.{Refusal}
use Rattle.m51_module.specs.declared.linked.Refusal.TheVariants.{L1, L2, L3, L4, L5, L6, L7, L8, L9, L10, L11, L12}
use Rattle.m51_module.specs.declared.linked.Refusal.TheVariants.{L13, Limit, Memory}

-- a name after a blank
abbrev pub after_blank : List ℕ → List ℕ
after_blank name = codes " " ++ name

-- what a limit is of
abbrev pub quantity_word : Quantity → List ℕ
quantity_word Files = codes "FILES"
quantity_word Bytes = codes "BYTES"
quantity_word ControlLines = codes "CONTROLLINES"
quantity_word ScriptLines = codes "SCRIPTLINES"
quantity_word Modules = codes "MODULES"
quantity_word Segments = codes "SEGMENTS"
quantity_word Units = codes "UNITS"
quantity_word Parts = codes "PARTS"
quantity_word Lines = codes "LINES"
quantity_word Points = codes "POINTS"

-- the number of a limit
abbrev pub most_of : Quantity → ℕ
most_of Files = MOST_FILES
most_of Bytes = MOST_FILE_BYTES
most_of ControlLines = MOST_CONTROL_LINES
most_of ScriptLines = MOST_SCRIPT_LINES
most_of Modules = MOST_MODULES
most_of Segments = MOST_SEGMENTS
most_of Units = MOST_UNITS
most_of Parts = MOST_MODULE_SEGMENTS
most_of Lines = MOST_SOURCE_LINES
most_of Points = MOST_POINTS

-- what a limit is of, and its number
abbrev pub limit_text : Quantity → List ℕ
limit_text what = quantity_word what ++ codes " " ++ decimal (most_of what)

-- a refusal: its number and the names, each after a blank; never used for out of memory, which has no text
abbrev pub refusal_words : Refusal → List ℕ
refusal_words (L1 name) = codes "LINK L1" ++ after_blank name
refusal_words (L2 name) = codes "LINK L2" ++ after_blank name
refusal_words (L3 name) = codes "LINK L3" ++ after_blank name
refusal_words (L4 name) = codes "LINK L4" ++ after_blank name
refusal_words (L5 name) = codes "LINK L5" ++ after_blank name
refusal_words (L6 name) = codes "LINK L6" ++ after_blank name
refusal_words (L7 line) = codes "LINK L7 LINE " ++ decimal line
refusal_words L8 = codes "LINK L8"
refusal_words (L9 one two) = codes "LINK L9" ++ after_blank one ++ after_blank two
refusal_words (L10 units) = codes "LINK L10" ++ flat_map after_blank units
refusal_words (L11 unit one two) = codes "LINK L11" ++ after_blank unit ++ after_blank one ++ after_blank two
refusal_words (L12 name) = codes "LINK L12" ++ after_blank name
refusal_words (L13 name offset) = codes "LINK L13" ++ after_blank name ++ codes " " ++ hex4 offset
refusal_words (Limit what) = codes "LIMIT " ++ limit_text what
refusal_words Memory = []

-- the line of a refusal
abbrev pub refusal_text : Refusal → List ℕ
refusal_text refusal = refusal_words refusal ++ codes "\n"

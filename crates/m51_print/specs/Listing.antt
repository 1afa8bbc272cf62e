-- The listing of a source: a line for each row. File 0 is the source, file k the k-th include.
use Rattle.std.specs.Prelude.{ℕ, ◌-◌, ◌<◌, ◌≤◌, Bool, true, false, List, [], ◌∷◌, ◌++◌, map, flat_map, length, take}
use Rattle.std.specs.Prelude.{replicate, Option, Some, None, codes, All}
use Rattle.std.specs.List.{slice_index_or}
use Rattle.std.specs.Fmt.{decimal}
use Rattle.m51_cells.specs.Hex.{hex2, hex4}
use Rattle.std.specs.Str.Lines.{lines}
use Rattle.m51_module.specs.declared.source.Row.{Row}
use Rattle.m51_module.specs.declared.source.SourceFile.{SourceFile}

-- `count` blanks
abbrev pub blanks : ℕ → List ℕ
blanks count = replicate count 32

-- a text right-aligned in this number of columns, and whole where it is longer
unfoldable pub right_in : ℕ → List ℕ → List ℕ
right_in columns text = blanks (columns - length text) ++ text

-- a text left-aligned in this number of columns
unfoldable pub left_in : ℕ → List ℕ → List ℕ
left_in columns text = text ++ blanks (columns - length text)

-- a place in four digits, or as many blanks
abbrev pub place_text : Option ℕ → List ℕ
place_text None = blanks 4
place_text (Some place) = hex4 place

-- the sign of a statement in which a fixup lies
abbrev pub fixup_sign : Bool → List ℕ
fixup_sign true = codes "*"
fixup_sign false = codes " "

-- the bytes of a row that count
abbrev pub content : Row → List ℕ
content row = take row.count row.bytes

-- the line of a row, before the text of its line
unfoldable pub row_front : Row → List ℕ
row_front row =
    right_in 5 (decimal row.line) ++ codes " " ++ place_text row.place ++ codes " "
    ++ left_in 6 (flat_map hex2 (content row)) ++ fixup_sign row.marked ++ codes " "

-- the line of a row and of the text of its line
unfoldable pub row_line : Row → List ℕ → List ℕ
row_line row text = row_front row ++ text ++ codes "\n"

-- the lines of each file, the source first
abbrev pub lines_of_files : SourceFile → List SourceFile → List (List (List ℕ))
lines_of_files source includes = map (λ file. lines file.bytes) (source ∷ includes)

-- the text of the line that a row names
abbrev pub line_text : List (List (List ℕ)) → Row → List ℕ
line_text files row = slice_index_or (slice_index_or files row.file []) (row.line - 1) []

-- the line of a row, of the files whose lines these are
unfoldable pub listed_row : List (List (List ℕ)) → Row → List ℕ
listed_row files row = row_line row (line_text files row)

-- the listing of a source with its includes and rows
unfoldable pub listing_of : SourceFile → List SourceFile → List Row → List ℕ
listing_of source includes rows = flat_map (listed_row (lines_of_files source includes)) rows

-- a row names a given file and a line of it, and has 0 to 3 bytes
pub record IsRowOf (files : List (List (List ℕ))) (row : Row) : Type 0 where
  pub file : row.file < length files
  pub first : 0 < row.line
  pub last : row.line ≤ length (slice_index_or files row.file [])
  pub count : row.count ≤ 3

-- rows are of a source with its includes
pub record AreOf (source : SourceFile) (includes : List SourceFile) (rows : List Row) : Type 0 where
  pub each : All (IsRowOf (lines_of_files source includes)) rows

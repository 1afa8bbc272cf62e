-- The map of a layout: its placed extents, its units, the heaviest chains, and the bytes in use.
use Rattle.std.specs.Prelude.{ℕ, ◌+◌, ◌/◌, ◌%◌, ◌<◌, ◌==◌, ◌&&◌, nat_le, nat_lt, Bool, if◌then◌else◌, List}
use Rattle.std.specs.Prelude.{[], ◌∷◌, ◌++◌, map, length, slice_index, codes, All, flat_map, count_by}
use Rattle.std.specs.List.{filter, range_with_len, list_any}
use Rattle.std.specs.Fmt.{decimal}
use Rattle.m51_cells.specs.declared.kind.Kind.{Kind}
use Rattle.m51_cells.specs.declared.kind.Kind.TheVariants.{Code, Xdata, Direct, Idata, Bits, Number}
use Rattle.m51_cells.specs.declared.kind.Reloc.TheVariants.{Unit as UnitType}
use Rattle.m51_cells.specs.Hex.{hex4}
use Rattle.m51_cells.specs.Name.{title_at}
use Rattle.m51_module.specs.declared.linked.Chain.{Chain}
use Rattle.m51_module.specs.declared.parts.LayoutParts.{LayoutParts}
use Rattle.m51_module.specs.declared.placed.Mark.{Mark}
use Rattle.m51_module.specs.declared.placed.Mark.TheVariants.{Bank, Reserve, Absolute, Plain, Overlaid}
use Rattle.m51_module.specs.declared.placed.Placed.{Placed}
use Rattle.m51_module.specs.Chains.{is_overlaid_data}
use Rattle.m51_module.specs.Roots.{vectors}
use Rattle.m51_module.specs.Walks.{has_edge}
use Rattle.m51_print.specs.Lines.{titles_of, numbered_title}

-- the word of a kind, left-aligned in 5 columns; NUMBER has none
abbrev pub kind_text : Kind → List ℕ
kind_text Code = codes "CODE "
kind_text Xdata = codes "XDATA"
kind_text Direct = codes "DATA "
kind_text Idata = codes "IDATA"
kind_text Bits = codes "BIT  "
kind_text Number = codes "     "

-- the letter of a mark
abbrev pub mark_text : Mark → List ℕ
mark_text Bank = codes "B"
mark_text Reserve = codes "R"
mark_text Absolute = codes "A"
mark_text Plain = codes "P"
mark_text Overlaid = codes "O"

-- the line of a placed extent: kind, base, size, mark and title
unfoldable pub segment_line : Placed → List ℕ
segment_line p =
    kind_text p.kind ++ codes " " ++ hex4 p.base ++ codes " " ++ hex4 p.size ++ codes " " ++ mark_text p.mark
    ++ codes " " ++ p.title ++ codes "\n"

-- a name after a comma
abbrev pub after_comma : List ℕ → List ℕ
after_comma name = codes "," ++ name

-- names with commas between them, and - where there is none
unfoldable pub listed : List (List ℕ) → List ℕ
listed [] = codes "-"
listed (name ∷ more) = name ++ flat_map after_comma more

-- those of the vectors whose bits are set: the lowest bit is that of the first vector
abbrev pub roots_among : ℕ → List ℕ → List ℕ
roots_among byte [] = []
roots_among byte (vector ∷ more) =
    if byte % 2 == 1 then vector ∷ roots_among (byte / 2) more else roots_among (byte / 2) more

-- the titles of the roots of a byte
unfoldable pub root_titles : ℕ → List (List ℕ)
root_titles byte = map title_at (roots_among byte vectors)

-- the title of a unit
unfoldable pub unit_title : LayoutParts → ℕ → List ℕ
unit_title l unit = numbered_title (titles_of l.placed) (slice_index l.units unit)

-- the units to which an edge leads from this one, by number
abbrev pub targets_of : LayoutParts → ℕ → List ℕ
targets_of l unit = filter (has_edge l.edges unit) (range_with_len 0 (length l.units))

-- the line of a unit: the roots under which it lies, and the titles of the units to which an edge leads
unfoldable pub unit_line : List ℕ → ℕ → List (List ℕ) → List ℕ
unit_line title roots targets =
    title ++ codes " FROM " ++ listed (root_titles roots) ++ codes " TO " ++ listed targets ++ codes "\n"

-- the line of the unit of that number
unfoldable pub line_of_unit : LayoutParts → List ℕ → ℕ → List ℕ
line_of_unit l roots unit =
    unit_line (unit_title l unit) (slice_index roots unit) (map (unit_title l) (targets_of l unit))

-- the line of a chain: its root, its bytes and its units
unfoldable pub chain_line : List ℕ → ℕ → List (List ℕ) → List ℕ
chain_line root bytes units =
    codes "CHAIN " ++ root ++ codes " " ++ decimal bytes ++ codes " " ++ listed units ++ codes "\n"

-- the line of a chain of this layout
unfoldable pub line_of_chain : LayoutParts → Chain → List ℕ
line_of_chain l chain = chain_line (unit_title l chain.root) chain.bytes (map (unit_title l) chain.units)

-- the extent is an overlaid segment of DATA, of any type, and covers the byte at this address of internal RAM
abbrev pub overlays : ℕ → Placed → Bool
overlays address p =
    is_overlaid_data p.kind UnitType p.mark && (nat_le p.base address && nat_lt address (p.base + p.size))

-- how many of the first addresses of internal RAM lie in some overlaid segment of DATA
unfoldable pub overlaid_below : List Placed → ℕ → ℕ
overlaid_below placed count = count_by (λ address. list_any (overlays address) placed) (range_with_len 0 count)

-- the line of the bytes that such segments cover, each of the 256 once
abbrev pub overlaid_line : List Placed → List ℕ
overlaid_line placed = codes "OVERLAID " ++ decimal (overlaid_below placed 256) ++ codes " BYTES\n"

-- the line of the bytes that content fills
abbrev pub image_line : ℕ → List ℕ
image_line bytes = codes "IMAGE " ++ decimal bytes ++ codes " BYTES\n"

-- the lines of the first `count` units
unfoldable pub unit_lines : LayoutParts → List ℕ → ℕ → List ℕ
unit_lines l roots count = flat_map (line_of_unit l roots) (range_with_len 0 count)

-- the map of a layout, with a byte of roots for each unit, the heaviest chain of each root, and the bytes of the image
unfoldable pub map_of : LayoutParts → List ℕ → List Chain → ℕ → List ℕ
map_of l roots chains bytes = codes "SEGMENTS\n" ++ flat_map segment_line l.placed
    ++ codes "UNITS\n" ++ unit_lines l roots (length l.units)
    ++ flat_map (line_of_chain l) chains
    ++ overlaid_line l.placed ++ image_line bytes

-- the units that a chain names are units of the layout
pub record NamesUnits (l : LayoutParts) (chain : Chain) : Type 0 where
  pub root : chain.root < length l.units
  pub units : All (λ unit. unit < length l.units) chain.units

-- The words for kinds and types (the assembler's rules of segments).
use Rattle.std.specs.Prelude.{ℕ, if◌then◌else◌, List, codes, Option, Some, None}
use Rattle.std.specs.Str.{bytes_eq}
use Rattle.m51_cells.specs.declared.kind.Kind.{Kind}
use Rattle.m51_cells.specs.declared.kind.Kind.TheVariants as kind
use Rattle.m51_cells.specs.declared.kind.Reloc.{Reloc}
use Rattle.m51_cells.specs.declared.kind.Reloc.TheVariants as reloc

-- the kind of memory that a word names
unfoldable pub kind_of : List ℕ → Option Kind
kind_of word =
    if bytes_eq word (codes "CODE") then Some kind.Code
    else if bytes_eq word (codes "XDATA") then Some kind.Xdata
    else if bytes_eq word (codes "DATA") then Some kind.Direct
    else if bytes_eq word (codes "IDATA") then Some kind.Idata
    else if bytes_eq word (codes "BIT") then Some kind.Bits
    else None

-- NUMBER is a kind of EXTRN too
abbrev pub extern_kind_of : List ℕ → Option Kind
extern_kind_of word = if bytes_eq word (codes "NUMBER") then Some kind.Number else kind_of word

-- the type of a segment that a word names
unfoldable pub reloc_of : List ℕ → Option Reloc
reloc_of word =
    if bytes_eq word (codes "UNIT") then Some reloc.Unit
    else if bytes_eq word (codes "BITADDRESSABLE") then Some reloc.Bitaddressable
    else if bytes_eq word (codes "INPAGE") then Some reloc.Inpage
    else if bytes_eq word (codes "INBLOCK") then Some reloc.Inblock
    else if bytes_eq word (codes "PAGE") then Some reloc.Page
    else None
